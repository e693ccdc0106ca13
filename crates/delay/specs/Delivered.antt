-- What the three delivered kinds mean.
use Rattle.std.specs.Prelude.{ℕ, ◌+◌, min, ◌&&◌, ◌||◌, ◌==◌, nat_le, nat_lt}
use Rattle.delay.specs.Kind.{Kind}
use Rattle.delay.specs.declared.Picoseconds.{Picoseconds}
use Rattle.delay.specs.declared.Contact.{Contact}
use Rattle.delay.specs.declared.Early.{Early}

-- a sum of numbers that stops at the largest 32-bit number
abbrev pub capped : ℕ → ℕ → ℕ
capped a b = min (a + b) 4294967295

abbrev pub picoseconds_of : ℕ → Picoseconds
picoseconds_of n = record { 0 = n }

-- picoseconds alone
abbrev pub picosecond_kind : Kind Picoseconds
picosecond_kind = record {
  zero = picoseconds_of 0;
  plus = λ x y. picoseconds_of (capped x.0 y.0);
  below = λ x y. nat_lt x.0 y.0;
  lawful = λ x. nat_le x.0 1000000;
  reading = λ p c. picoseconds_of p;
}

abbrev pub contact_of : ℕ → ℕ → Contact
contact_of p c = record { picoseconds = p; contacts = c }

-- picoseconds and contacts: each part is added, picoseconds are compared first and contacts second
abbrev pub contact_kind : Kind Contact
contact_kind = record {
  zero = contact_of 0 0;
  plus = λ x y. contact_of (capped x.picoseconds y.picoseconds) (capped x.contacts y.contacts);
  below = λ x y. nat_lt x.picoseconds y.picoseconds || (x.picoseconds == y.picoseconds && nat_lt x.contacts y.contacts);
  lawful = λ x. nat_le x.picoseconds 1000000 && nat_le x.contacts 255;
  reading = contact_of;
}

abbrev pub early_of : {D : Type 0} → D → Early D
early_of d = record { 0 = d }

-- any kind with its order turned round; it calls lawful what the kind below it does
abbrev pub early_kind : {D : Type 0} → Kind D → Kind (Early D)
early_kind K = record {
  zero = early_of K.zero;
  plus = λ x y. early_of (K.plus x.0 y.0);
  below = λ x y. K.below y.0 x.0;
  lawful = λ x. K.lawful x.0;
  reading = λ p c. early_of (K.reading p c);
}

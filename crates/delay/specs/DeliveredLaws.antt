-- The delivered kinds keep the laws, and below the limit their sums are exact.
use Rattle.std.specs.Prelude.{◌≡◌, ℕ, ◌+◌, ◌*◌, ◌≤◌, nat_le}
use Rattle.std.proofs.Common.{ap, arith}
use Rattle.std.proofs.lemmas.Bool.{leb-true, le-leb, and_parts, and_from}
use Rattle.std.proofs.lemmas.Bool.Decides.{nat_tests}
use Rattle.delay.specs.declared.Picoseconds.{Picoseconds}
use Rattle.delay.specs.declared.Contact.{Contact}
use Rattle.delay.specs.declared.Early.{Early}
use Rattle.delay.specs.Kind.{Kind, SumOf, none, one, both, Together, Laws}
use Rattle.delay.specs.Delivered.{capped, picoseconds_of, picosecond_kind, contact_of, contact_kind, early_of, early_kind}

-- n lawful delays come to at most n times the most that one may have
picoseconds_bound : {n : ℕ} {x : Picoseconds} → SumOf picosecond_kind n x → x.0 ≤ n * 1000000
picoseconds_bound none = omega arith
picoseconds_bound (one {d = d} i l) = let k = leb-true d.0 1000000 l in omega arith
picoseconds_bound (both i a b) = let h = picoseconds_bound a in let k = picoseconds_bound b in omega arith

pub picosecond_laws : Laws picosecond_kind
picosecond_laws = record {
  zero_adds_nothing = λ {x} a. let h = picoseconds_bound a in ap picoseconds_of (omega arith);
  commutes = λ {x = x} {y = y} a b h. ap picoseconds_of (omega arith);
  associates = λ {x = x} {y = y} {z = z} a b c h. ap picoseconds_of (omega arith);
  transitive = λ {x} {y} {z} a b c p q. grind (arith, nat_tests);
  not_below_itself = λ {x} a. grind (arith, nat_tests);
  equal_if_neither = λ {x} {y} a b p q. ap picoseconds_of (grind (arith, nat_tests));
  keeps_order = λ {p = p} {q = q} {r = r} a b c h k i.
      let x = picoseconds_bound a in let y = picoseconds_bound b in let z = picoseconds_bound c in grind (arith, nat_tests);
  readings_lawful = λ p c h k. le-leb p 1000000 h;
}

pub picosecond_sums_exact : {x y : Picoseconds} → Together picosecond_kind x y → capped x.0 y.0 ≡ x.0 + y.0
picosecond_sums_exact t = let h = picoseconds_bound t.left_sum in let k = picoseconds_bound t.right_sum in omega arith

contact_bound : {n : ℕ} {x : Contact} → SumOf contact_kind n x → (x.picoseconds ≤ n * 1000000) × (x.contacts ≤ n * 255)
contact_bound none = omega arith
contact_bound (one {d = d} i l) =
    let k = and_parts (nat_le d.picoseconds 1000000) (nat_le d.contacts 255) l in
    let p = leb-true d.picoseconds 1000000 k.0 in let c = leb-true d.contacts 255 k.1 in omega arith
contact_bound (both i a b) = let h = contact_bound a in let k = contact_bound b in omega arith

same_contact : {a b c d : ℕ} → a ≡ c → b ≡ d → contact_of a b ≡ contact_of c d
same_contact p q = cc

pub contact_laws : Laws contact_kind
contact_laws = record {
  zero_adds_nothing = λ {x} a. let h = contact_bound a in same_contact (omega arith) (omega arith);
  commutes = λ {x = x} {y = y} a b h. same_contact (omega arith) (omega arith);
  associates = λ {x = x} {y = y} {z = z} a b c h. same_contact (omega arith) (omega arith);
  transitive = λ {x} {y} {z} a b c p q. grind (arith, nat_tests);
  not_below_itself = λ {x} a. grind (arith, nat_tests);
  equal_if_neither = λ {x} {y} a b p q. same_contact (grind (arith, nat_tests)) (grind (arith, nat_tests));
  keeps_order = λ {p = p} {q = q} {r = r} a b c h k i.
      let x = contact_bound a in let y = contact_bound b in let z = contact_bound c in grind (arith, nat_tests);
  readings_lawful = λ p c h k. and_from (nat_le p 1000000) (nat_le c 255) (le-leb p 1000000 h) (le-leb c 255 k);
}

pub contact_sums_exact : {x y : Contact} → Together contact_kind x y →
    (capped x.picoseconds y.picoseconds ≡ x.picoseconds + y.picoseconds) × (capped x.contacts y.contacts ≡ x.contacts + y.contacts)
contact_sums_exact t = let h = contact_bound t.left_sum in let k = contact_bound t.right_sum in (omega arith, omega arith)

module _ {D : Type 0} {K : Kind D} where
  -- a sum of early delays is one of delays of the kind below
  beneath : {n : ℕ} {x : Early D} → SumOf (early_kind K) n x → SumOf K n x.0
  beneath none = none
  beneath (one i l) = one i l
  beneath (both i a b) = both i (beneath a) (beneath b)

  pub early_laws : Laws K → Laws (early_kind K)
  early_laws L = record {
    zero_adds_nothing = λ a. ap early_of (L.zero_adds_nothing (beneath a));
    commutes = λ a b h. ap early_of (L.commutes (beneath a) (beneath b) h);
    associates = λ a b c h. ap early_of (L.associates (beneath a) (beneath b) (beneath c) h);
    transitive = λ a b c p q. L.transitive (beneath c) (beneath b) (beneath a) q p;
    not_below_itself = λ a. L.not_below_itself (beneath a);
    equal_if_neither = λ a b p q. ap early_of (L.equal_if_neither (beneath a) (beneath b) q p);
    keeps_order = λ a b c h i p. L.keeps_order (beneath b) (beneath a) (beneath c) i h p;
    readings_lawful = L.readings_lawful;
  }

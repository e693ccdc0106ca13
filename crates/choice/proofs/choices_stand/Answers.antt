use Rattle.choice.proofs.choices_stand.Goals as goal
use Rattle.choice.proofs.Choices.{choices_stand_lem}
use Rattle.choice.proofs.Orders.{orders_stand, room_stands, rows_chosen}

pub returns : goal.returns
returns g c = record { choices = choices_stand_lem g.met.D.Delay.laws; orders = orders_stand; room = room_stands; rows = rows_chosen }

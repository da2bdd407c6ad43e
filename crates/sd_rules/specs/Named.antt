-- Numbers that stand at a place.
use Rattle.std.specs.Prelude.{ℕ, List}
use Rattle.sd_validity.specs.rules.Places.{Thing}
use Rattle.sd_validity.specs.rules.NamesInForce.{held_at, params_at, set_at}
use Rattle.sd_rules.specs.declared.single.Named.{Named}
use Rattle.sd_rules.specs.declared.single.Named.TheVariants.{Held, Params, Set}

abbrev pub numbers_of : Named → Thing → List ℕ
numbers_of Held = held_at
numbers_of Params = params_at
numbers_of Set = set_at

-- What the rule on limits asks of the scopes and loops about an item.
use Rattle.std.specs.Prelude.{◌+◌, nat_le, Bool, true}
use Rattle.sd_validity.specs.rules.Places.{Thing, whole, leaving, doing, Place}

-- at most 7 of them together
abbrev pub has_few_about : Place → Thing → Bool
has_few_about place whole = true
has_few_about place (leaving items exits) = true
has_few_about place (doing kind) = nat_le (place.scopes.count + place.loop_count) 7

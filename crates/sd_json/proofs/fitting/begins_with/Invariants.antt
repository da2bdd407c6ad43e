use Rattle.std.proofs.Common.{◌≡◌, drop, map, nat_eq, unsigned_abs}
use Rattle.std.specs.List.{starts_with}
use Rattle.sd_json.proofs.fitting.begins_with.Given as goal

-- the numbers so far are the same
abbrev pub invariant-loop-at : goal.invariant-loop-at
invariant-loop-at l =
    starts_with nat_eq (map (λ extent. unsigned_abs extent.constant) l.extents) l.shape ≡ starts_with nat_eq (map (λ extent. unsigned_abs extent.constant) (drop l.at l.extents)) (drop l.at l.shape)

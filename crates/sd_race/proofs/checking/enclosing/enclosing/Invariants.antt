use Rattle.std.proofs.Common.{◌≡◌, length}
use Rattle.std.specs.List.{All}
use Rattle.sd_race.specs.checking.Clear.{Encloses}
use Rattle.sd_race.proofs.checking.enclosing.enclosing.Given as goal

-- the dimensions so far enclose those of each access
abbrev pub invariant-loop-dimension : goal.invariant-loop-dimension
invariant-loop-dimension l = record {
  many : length l.all.items ≡ l.dimension;
  enclosed : All (λ one. Encloses l.all.items one.access.now.box) l.items;
}

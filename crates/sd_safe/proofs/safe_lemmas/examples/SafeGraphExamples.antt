-- Small graphs that are fit and accepted: the premises can be met, also of a sequential map that has a race.
use Rattle.std.specs.List.{AllByRecursion}
use Rattle.std.proofs.Common.{pos, [], ◌∷◌, true, arith}
use Rattle.std.proofs.lemmas.Int.{ints}
use Rattle.sd_range.specs.declared.subset.Dim.TheVariants.{Index}
use Rattle.sd_subset.specs.boxes.InForce.{AreFresh}
use Rattle.sd_subset.proofs.boxes_lemmas.examples.BoxExamples.{i}
use Rattle.sd_work.specs.Memory.{Memory}
use Rattle.sd_confluence.specs.Safe.{MayInterleave}
use Rattle.sd_graph.specs.Unfold.{run_of}
use Rattle.sd_prop.proofs.propagation_lemmas.examples.AccessExamples.{shifted, shift, shift_of}
use Rattle.sd_race.proofs.race_lemmas.examples.RaceExamples.{a_shift_by_four_is_accepted}
use Rattle.sd_race.specs.cover.Fit.{IsNormalDim, IsGraphFit}
use Rattle.sd_safe.proofs.safe_lemmas.Whole.{may_interleave}

-- its one parameter is new
fresh : AreFresh [] (i (pos 1) ∷ [])
fresh = record {
  distinct = (tt, tt);
  normal = (record { range = record { ended = omega arith; few_ends = omega arith; rises = omega (arith, ints) }; begin = tt; ends = (tt, tt) }, tt);
  others = tt;
  outer_ranges = tt;
  own_ranges = ((tt, (tt, tt)), tt);
}

-- A[i] = A[i + 4]: its links are in normal form
normal : AllByRecursion IsNormalDim (Index (shifted (pos 4)) ∷ [])
normal = ((λ is. cc, tt, tt), tt)

normal_target : AllByRecursion IsNormalDim (Index (shifted (pos 0)) ∷ [])
normal_target = ((λ is. cc, tt, tt), tt)

a_shift_is_fit : IsGraphFit (shift (pos 4)) []
a_shift_is_fit = (tt, ((tt, tt), ((((fresh, (((normal, tt), (normal_target, tt)), tt)), tt), tt), tt)))

a_shift_may_interleave : (memory : Memory) → MayInterleave (run_of (shift (pos 4)) memory)
a_shift_may_interleave memory = may_interleave (shift (pos 4)) memory a_shift_is_fit a_shift_by_four_is_accepted

-- A[i] = A[i + 1], one point after another
normal_next : AllByRecursion IsNormalDim (Index (shifted (pos 1)) ∷ [])
normal_next = ((λ is. cc, tt, tt), tt)

a_sequential_shift_is_fit : IsGraphFit (shift_of true (pos 1)) []
a_sequential_shift_is_fit = (tt, ((tt, tt), ((((fresh, (((normal_next, tt), (normal_target, tt)), tt)), tt), tt), tt)))

a_sequential_shift_may_interleave : (memory : Memory) → MayInterleave (run_of (shift_of true (pos 1)) memory)
a_sequential_shift_may_interleave memory = may_interleave (shift_of true (pos 1)) memory a_sequential_shift_is_fit (λ unmarked. cc, tt)

-- Terms that are in order, without pools, and whose runs end.
use Rattle.std.proofs.Common.{ℕ, zero, suc, inl, inr, refl, arith}
use Rattle.sd_work.specs.Memory.{Memory}
use Rattle.sd_work.specs.Exit.{Values}
use Rattle.sd_work.specs.WellFormed.{IsOrdered, HasNoPool, Rises, PaysCycles}
use Rattle.sd_work.proofs.examples.RunExamples.{round, leads, loop, parts_in_turn_are_in_order, parts_without_order_are_in_order}

round_is_ordered : (state : ℕ) (values : Values) → IsOrdered (round state values)
round_is_ordered zero values = (parts_without_order_are_in_order, tt)
round_is_ordered (suc state) values = (parts_in_turn_are_in_order, (tt, (tt, tt)))

a_loop_is_ordered : (memory : Memory) → IsOrdered (loop memory)
a_loop_is_ordered memory = ((parts_without_order_are_in_order, tt), round_is_ordered)

round_has_no_pool : (state : ℕ) (values : Values) → HasNoPool (round state values)
round_has_no_pool zero values = tt
round_has_no_pool (suc state) values = (tt, (tt, tt))

a_loop_has_no_pool : (memory : Memory) → HasNoPool (loop memory)
a_loop_has_no_pool memory = (tt, round_has_no_pool)

round_pays : (state : ℕ) (values : Values) → PaysCycles (round state values)
round_pays zero values = tt
round_pays (suc state) values = (tt, (tt, tt))

-- the way into the loop leads to a higher state, and the way round it is marked
ways_rise : (state : ℕ) (values : Values) → Rises (λ state. state) 2 state (leads state values)
ways_rise zero values = (inr (omega arith, omega arith), tt)
ways_rise (suc state) values = (inl refl, tt)

a_loop_pays : (memory : Memory) → PaysCycles (loop memory)
a_loop_pays memory = (tt, round_pays, record { rank = λ state. state; bound = 2; rises = ways_rise })

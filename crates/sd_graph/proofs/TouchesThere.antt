-- Where work touches only what is there, each of its touches is there.
use Rattle.std.proofs.Common.{inl, inr, ◌∷◌, sym, subst}
use Rattle.sd_work.specs.Memory.{Memory, Memories}
use Rattle.sd_work.specs.Residual.{Term, leaf, list, owning, nested, ended, pool, Terms, none, also, Actives, idle, busy}
use Rattle.sd_work.specs.Touch.{Touch, reads, writes, pushes, takes, inner, Touches, SomePartTouches, SomeActiveTouches}
use Rattle.sd_graph.specs.There.{IsThere, TouchesWhatIsThere, PartsTouchWhatIsThere, ActivesTouchWhatIsThere}

-- what is there outside of an owner, as it is named inside, is there outside
out_there : (own : Memory) (memories : Memories) (touch : Touch) → IsThere (own ∷ memories) (inner touch) → IsThere memories touch
out_there own memories (reads from) there = record {
  width = there.width;
  elements = there.elements;
  held = record { memory = there.held.memory; on_stack = there.held.on_stack; in_memory = there.held.in_memory };
  within = there.within;
}
out_there own memories (writes to by) there = record {
  width = there.width;
  elements = there.elements;
  held = record { memory = there.held.memory; on_stack = there.held.on_stack; in_memory = there.held.in_memory };
  within = there.within;
}
out_there own memories (pushes level container) there =
    record { width = there.width; values = there.values; held = record { memory = there.held.memory; on_stack = there.held.on_stack; in_memory = there.held.in_memory } }
out_there own memories (takes level container) there =
    record { width = there.width; values = there.values; held = record { memory = there.held.memory; on_stack = there.held.on_stack; in_memory = there.held.in_memory } }

mutual
  pub touch_there : {P : Type 0} (term : Term P) (memories : Memories) (touch : Touch) → TouchesWhatIsThere memories term → Touches term touch → IsThere memories touch
  touch_there (leaf place work) memories touch there touched = there touch touched
  touch_there (list kind before parts) memories touch there touched = part_touch_there parts memories touch there touched
  touch_there (owning own part) memories touch there touched = out_there own memories touch (touch_there part (own ∷ memories) (inner touch) there touched)
  touch_there (nested body exits own state values part) memories touch there (inl touched) =
      out_there own memories touch (touch_there part (own ∷ memories) (inner touch) there.0 touched)
  touch_there (nested body exits own state values part) memories touch there (inr (inl (next, set, touched))) =
      out_there own memories touch (touch_there (body next set) (own ∷ memories) (inner touch) (there.1 next set) touched)
  touch_there (nested body exits own state values part) memories touch there (inr (inr (next, set, touched))) =
      out_there own memories touch (there.2 next set (inner touch) touched)
  touch_there (ended own) memories touch there touched = elim touched [ ]
  touch_there (pool level container body active closed) memories touch there (inl taken) = subst (IsThere memories) (sym taken) there.0
  touch_there (pool level container body active closed) memories touch there (inr (inl touched)) = active_touch_there active memories touch there.1 touched
  touch_there (pool level container body active closed) memories touch there (inr (inr (value, touched))) = touch_there (body value) memories touch (there.2 value) touched

  part_touch_there : {P : Type 0} (parts : Terms P) (memories : Memories) (touch : Touch) → PartsTouchWhatIsThere memories parts → SomePartTouches parts touch → IsThere memories touch
  part_touch_there none memories touch there touched = elim touched [ ]
  part_touch_there (also part parts) memories touch there (inl touched) = touch_there part memories touch there.0 touched
  part_touch_there (also part parts) memories touch there (inr touched) = part_touch_there parts memories touch there.1 touched

  active_touch_there : {P : Type 0} (active : Actives P) (memories : Memories) (touch : Touch) → ActivesTouchWhatIsThere memories active → SomeActiveTouches active touch → IsThere memories touch
  active_touch_there idle memories touch there touched = elim touched [ ]
  active_touch_there (busy value part active) memories touch there (inl touched) = touch_there part memories touch there.0 touched
  active_touch_there (busy value part active) memories touch there (inr touched) = active_touch_there active memories touch there.1 touched

-- Choices of consume scopes.
use Rattle.std.proofs.Common.{◌≡◌, ℕ, zero, suc, ◌∷◌, refl, sym, subst}
use Rattle.sd_work.specs.Moves.{Path}
use Rattle.sd_work.specs.BigStep.{Reached}
use Rattle.sd_graph.specs.PlainTree.{KindTree}
use Rattle.sd_graph.specs.Context.{Context}
use Rattle.sd_mem.specs.declared.machine.address.Station.{Station}
use Rattle.sd_mem.specs.declared.machine.end.End.{End}
use Rattle.sd_left.specs.declared.left.left.Bodies.{Bodies as BodiesNow}
use Rattle.sd_fire.specs.advance.Right.{AreElementsFired}

-- any choice but 0 is that of an element
pub another_choice : (stream : Station) (kind : KindTree) (context : Context) (bodies new : BodiesNow) (choice number : ℕ) (path : Path) (before after : Reached) (end : End) → (choice ≡ 0 → ⊥)
    → AreElementsFired stream bodies kind context (1 ∷ number ∷ path) before end after new → AreElementsFired stream bodies kind context (choice ∷ number ∷ path) before end after new
another_choice stream kind context bodies new zero number path before after end other fired = absurd (other refl)
another_choice stream kind context bodies new (suc n) number path before after end other fired = record { fired = fired.fired; right = fired.right }

-- the same consume scope along the same path
pub elements_moved : (stream : Station) (kind other : KindTree) (context : Context) (bodies new : BodiesNow) (path along : Path) (before after : Reached) (end : End) → kind ≡ other → path ≡ along
    → AreElementsFired stream bodies other context along before end after new → AreElementsFired stream bodies kind context path before end after new
elements_moved stream kind other context bodies new path along before after end same is fired =
    subst (λ (k : KindTree). AreElementsFired stream bodies k context path before end after new) (sym same) (subst (λ (p : Path). AreElementsFired stream bodies other context p before end after new) (sym is) fired)

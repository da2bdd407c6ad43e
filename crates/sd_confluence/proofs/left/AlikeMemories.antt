-- Terms that are alike have memories that are alike.
use Rattle.std.proofs.Common.{[], sym, subst}
use Rattle.sd_work.specs.Residual.{Term, leaf, list, owning, nested, ended, pool}
use Rattle.sd_work.specs.Run.{memory_of}
use Rattle.sd_confluence.specs.Alike.{AreAlike}
use Rattle.sd_confluence.specs.Sides.{AreTermsAlike}

pub memories-alike : {P : Type 0} (term other : Term P) → AreTermsAlike term other → AreAlike (memory_of term) (memory_of other)
memories-alike {P} term (leaf place work) alike = subst (λ (t : Term P). AreAlike (memory_of t) []) (sym alike) tt
memories-alike {P} term (list kind before parts) (others, is, alike) = subst (λ (t : Term P). AreAlike (memory_of t) []) (sym is) tt
memories-alike {P} term (owning own part) (memory, other, is, same, alike) = subst (λ (t : Term P). AreAlike (memory_of t) []) (sym is) tt
memories-alike {P} term (nested body exits own state values part) (memory, other, is, same, alike) = subst (λ (t : Term P). AreAlike (memory_of t) own) (sym is) same
memories-alike {P} term (ended own) (memory, is, same) = subst (λ (t : Term P). AreAlike (memory_of t) own) (sym is) same
memories-alike {P} term (pool level container body active closed) (others, is, alike) = subst (λ (t : Term P). AreAlike (memory_of t) []) (sym is) tt

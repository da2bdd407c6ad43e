-- Arguments before other containers.
use Rattle.std.proofs.Common.{◌≡◌, ℕ, zero, suc, ◌-◌, ◌<◌, List, ◌∷◌, not, ◌&&◌, refl, arith}
use Rattle.sd_graph.specs.ContainerParts.{Containers, is_argument}
use Rattle.sd_graph.specs.declared.container.Container.{Container}
use Rattle.sd_validity.specs.rules.NestedLinks.{do_arguments_come_first}

-- an argument, where more are to come
pub argument_first : (left : ℕ) (entry : List ℕ × Container) (entries : Containers) → 0 < left →
    do_arguments_come_first left (entry ∷ entries) ≡ (is_argument entry.1.kind && do_arguments_come_first (left - 1) entries)
argument_first zero entry entries some = absurd (omega (arith, some))
argument_first (suc left) entry entries some =
    let less : suc left - 1 ≡ left = omega arith in
    rw less refl

-- none, where no more are to come
pub no_argument_first : (left : ℕ) (entry : List ℕ × Container) (entries : Containers) → (0 < left → ⊥) →
    do_arguments_come_first left (entry ∷ entries) ≡ (not (is_argument entry.1.kind) && do_arguments_come_first (left - 1) entries)
no_argument_first zero entry entries none = refl
no_argument_first (suc left) entry entries none = absurd (none (omega arith))

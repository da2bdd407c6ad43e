use Rattle.std.proofs.Common.{◌≡◌, true, false, sym, ap, ◌∙◌, refl, ◌⊎◌, inl, inr}
use Rattle.sd_graph.specs.ContainerParts.{is_stream}
use Rattle.sd_graph.specs.declared.container.ContainerKind.{ContainerKind}
use Rattle.sd_graph.specs.declared.container.ContainerKind.TheVariants.{Argument, Transient, Private, Stream, PrivateStream}
use Rattle.sd_leaves.proofs.leaves_lemmas.Containers.{stream_at, no_stream_at}
use Rattle.sd_leaves.proofs.leaves.effects.is_stream.Goals as goal

streams : (kind : ContainerKind) → ((kind ≡ Stream) ⊎ (kind ≡ PrivateStream)) → true ≡ is_stream kind
streams kind is = elim is [
  | inl is ↦ sym (ap is_stream is)
  | inr is ↦ sym (ap is_stream is)
]

others : (kind : ContainerKind) → (kind ≡ Stream → ⊥) → (kind ≡ PrivateStream → ⊥) → false ≡ is_stream kind
others Argument no_stream no_private = refl
others Transient no_stream no_private = refl
others Private no_stream no_private = refl
others Stream no_stream no_private = absurd (no_stream refl)
others PrivateStream no_stream no_private = absurd (no_private refl)

pub returns-in-Stream : goal.returns-in-Stream
returns-in-Stream c =
    streams c.in-Some.container.now.kind c.in-Stream.is
    ∙ stream_at c.args.graph.now c.args.container c.in-Some.field-0-0.now c.in-Some.container.now c.in-Some.ensures.entry

pub returns-in_default : goal.returns-in_default
returns-in_default c =
    others c.in-Some.container.now.kind c.in_default.not-Stream c.in_default.not-PrivateStream
    ∙ stream_at c.args.graph.now c.args.container c.in-Some.field-0-0.now c.in-Some.container.now c.in-Some.ensures.entry

pub returns-in-None : goal.returns-in-None
returns-in-None c = no_stream_at c.args.graph.now c.args.container c.in-None.ensures.entry

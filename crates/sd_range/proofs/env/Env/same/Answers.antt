use Rattle.std.proofs.Common.{ap, sym, ◌∙◌}
use Rattle.std.proofs.lemmas.Bool.Decides.{Decides-int_eq}
use Rattle.std.proofs.lemmas.Slice.Eq.{slice_eq-Decides}
use Rattle.sd_range.specs.declared.env.Env.{Env}
use Rattle.sd_range.proofs.env.Env.same.Goals as goal

pub returns : goal.returns
returns c =
    let told = slice_eq-Decides Decides-int_eq c.as_slice.result.now c.as_slice-2.result.now c.eq.result c.eq.ensures in (
      λ yes. ap (λ values. let env : Env = record { values = values } in env) (sym c.as_slice.ensures ∙ told.0 yes ∙ c.as_slice-2.ensures),
      λ same. told.1 (c.as_slice.ensures ∙ ap (λ (env : Env). env.values) same ∙ sym c.as_slice-2.ensures),
    )

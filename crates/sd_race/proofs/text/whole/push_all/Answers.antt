use Rattle.std.proofs.Common.{◌≡◌, ◌++◌, ℕ, List, string_bytes, OnOk, subst}
use Rattle.sd_race.proofs.text_lemmas.Graphs.{scopes_made}
use Rattle.sd_race.proofs.text.whole.push_all.Goals as goal

pub returns : goal.returns
returns c =
    subst (λ (bytes : List ℕ). OnOk c.push_scopes.result (string_bytes c.push_scopes.new.text ≡ string_bytes c.args.text.now ++ bytes))
    (scopes_made c.args.graph.now c.deref.result.now c.deref-2.result.now c.args.scopes.now c.deref.ensures.value c.deref-2.ensures.value)
    c.push_scopes.ensures

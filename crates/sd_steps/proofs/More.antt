-- One more of the scopes and of the rewrites that are tried, and of the steps that are written.
use Rattle.std.proofs.Common.{◌≡◌, ℕ, ◌+◌, ◌<◌, List, [], ◌∷◌, ◌++◌, length, map, get_or, drop, ap, sym, ◌∙◌, append_assoc}
use Rattle.std.specs.List.{filter, flat_map}
use Rattle.std.proofs.lemmas.List.{drop_more}
use Rattle.std.proofs.lemmas.List.Elements.{filter-append}
use Rattle.sd_graph.specs.PlainTree.{GraphTree}
use Rattle.sd_prop.specs.propagation.Scopes.{Scope}
use Rattle.sd_chain.specs.declared.step.Step.{Step}
use Rattle.sd_steps.specs.Matched.{may_be_done, step_at, matches_at}
use Rattle.sd_steps.specs.StepText.{step_line}
use Rattle.sd_steps.specs.declared.matched.Rewrite.{Rewrite}

first_match : (tree : GraphTree) (rewrite : Rewrite) (scope : Scope) (rest : List Scope) →
    matches_at tree rewrite (scope ∷ rest) ≡ filter (may_be_done tree) (step_at rewrite scope ∷ []) ++ matches_at tree rewrite rest
first_match tree rewrite scope rest = filter-append (may_be_done tree) (step_at rewrite scope ∷ []) (map (step_at rewrite) rest)

pub found_more : (tree : GraphTree) (rewrite : Rewrite) (before found new : List Step) (scopes : List Scope) (at : ℕ) (scope : Scope) (step : Step) → at < length scopes → scope ≡ get_or scopes at scope →
    step ≡ step_at rewrite scope → new ≡ found ++ filter (may_be_done tree) (step ∷ []) → before ≡ found ++ matches_at tree rewrite (drop at scopes) → before ≡ new ++ matches_at tree rewrite (drop (at + 1) scopes)
found_more tree rewrite before found new scopes at scope step within item is pushed so_far =
    let rest : List Scope = drop (at + 1) scopes in
    let left : drop at scopes ≡ scope ∷ rest = drop_more scopes at scope within ∙ ap (λ first. first ∷ rest) (sym item) in
    so_far ∙ ap (λ scopes. found ++ matches_at tree rewrite scopes) left
    ∙ ap (λ more. found ++ more) (first_match tree rewrite scope rest)
    ∙ sym (append_assoc found (filter (may_be_done tree) (step_at rewrite scope ∷ [])) (matches_at tree rewrite rest))
    ∙ ap (λ step. (found ++ filter (may_be_done tree) (step ∷ [])) ++ matches_at tree rewrite rest) (sym is)
    ∙ ap (λ found. found ++ matches_at tree rewrite rest) (sym pushed)

pub text_more : (all text line new : List ℕ) (steps : List Step) (at : ℕ) (step : Step) → at < length steps → step ≡ get_or steps at step → line ≡ step_line step → new ≡ text ++ line →
    all ≡ text ++ flat_map step_line (drop at steps) → all ≡ new ++ flat_map step_line (drop (at + 1) steps)
text_more all text line new steps at step within item is pushed so_far =
    let rest : List Step = drop (at + 1) steps in
    let left : drop at steps ≡ step ∷ rest = drop_more steps at step within ∙ ap (λ first. first ∷ rest) (sym item) in
    so_far ∙ ap (λ steps. text ++ flat_map step_line steps) left
    ∙ sym (append_assoc text (step_line step) (flat_map step_line rest))
    ∙ ap (λ line. (text ++ line) ++ flat_map step_line rest) (sym is)
    ∙ ap (λ text. text ++ flat_map step_line rest) (sym pushed)

pub ruleset more = (found_more, text_more)

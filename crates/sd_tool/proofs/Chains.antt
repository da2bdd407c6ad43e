-- What a chain makes of a valid graph in normal form runs for that graph.
use Rattle.std.proofs.Common.{◌≡◌, ◌∙◌, ℕ, List, Result, Ok, Err, refl, ap}
use Rattle.sd_graph.specs.PlainTree.{GraphTree}
use Rattle.sd_validity.specs.rules.Valid.{IsValid}
use Rattle.sd_safe.specs.normal.NormalForm.{IsGraphNormal}
use Rattle.sd_chain.specs.Chain.{chain_reading}
use Rattle.sd_chain.specs.Picks.{picks_reading}
use Rattle.sd_chain.specs.declared.step.Step.{Step}
use Rattle.sd_steps.specs.Chained.{chained}
use Rattle.sd_steps.proofs.Chains.{chain_valid, chain_alike}
use Rattle.sd_tool.specs.Steering.{steered, steered_by, rewritten_with}
use Rattle.sd_tool.specs.Workspace.{RunsFor}
use Rattle.sd_tool.proofs.Reading.{same_Ok, Ok_or_Err}

-- ---- graphs

pub chain_runs : (steps : List (ℕ × Step)) (tree other : GraphTree) → IsValid tree → IsGraphNormal tree → chained tree steps ≡ Ok other → RunsFor tree other
chain_runs steps tree other valid normal is = record {
  source_valid = valid;
  valid = chain_valid steps tree other valid is;
  alike = (chain_alike steps tree other valid normal is).1;
}

-- ---- texts

-- what the texts of the two files say of a graph and picks that they make
pub steers_so : (tree other : GraphTree) (chain file : List ℕ) (steps : List (ℕ × Step)) (picks : List ℕ) → chain_reading chain ≡ Ok steps → picks_reading file ≡ Ok picks → chained tree steps ≡ Ok other → steered tree chain file ≡ Ok (other, picks)
steers_so tree other chain file steps picks form also holds =
    ap (λ read. steered_by tree read (picks_reading file)) form ∙ ap (steered_by tree (Ok steps)) also ∙ ap (λ result. rewritten_with result picks) holds

pub steered_runs : (tree other : GraphTree) (chain file picks : List ℕ) → IsValid tree → IsGraphNormal tree → steered tree chain file ≡ Ok (other, picks) → RunsFor tree other
steered_runs tree other chain file picks valid normal is = by_readings (chain_reading chain) (picks_reading file) is where
  made_by : (steps : List (ℕ × Step)) (found : List ℕ) (made : Result GraphTree (ℕ × ℕ)) → chained tree steps ≡ made → rewritten_with made found ≡ Ok (other, picks) → RunsFor tree other
  made_by steps found (Ok new) holds is =
      let same = same_Ok (rewritten_with (Ok new) found) (new, found) (other, picks) refl is in
      chain_runs steps tree other valid normal (holds ∙ ap (λ both. Ok both.0) same)
  made_by steps found (Err failing) holds is = absurd (Ok_or_Err (rewritten_with (Err failing) found) (other, picks) _ is refl)

  by_readings : (form : Result (List (ℕ × Step)) ℕ) (also : Result (List ℕ) ℕ) → steered_by tree form also ≡ Ok (other, picks) → RunsFor tree other
  by_readings (Ok steps) (Ok found) is = made_by steps found (chained tree steps) refl is
  by_readings (Ok steps) (Err word) is = absurd (Ok_or_Err (steered_by tree (Ok steps) (Err word)) (other, picks) _ is refl)
  by_readings (Err line) also is = absurd (Ok_or_Err (steered_by tree (Err line) also) (other, picks) _ is refl)

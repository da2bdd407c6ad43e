-- What is told of the programs that may be called is kept by each line.
use Rattle.std.proofs.Common.{◌≡◌, ℕ, zero, suc, List, [], ◌∷◌, take, Bool, true, false, if◌then◌else◌, Option, Some, None, bytes_eq, sym, ap, ◌∙◌, subst}
use Rattle.std.specs.Bool.{⊤}
use Rattle.sd_lex.specs.PlainTree.{StatementTree, map_scope, for_loop, set}
use Rattle.sd_line.specs.line.Head.{HeadTree, import_line, symbol_line, program_decorator, program_head, statement_head, reduce_head, input_head, output_head, consume_decorator, consume_head, elif_head, else_head}
use Rattle.sd_names.specs.declared.meaning.Meaning.{Meaning}
use Rattle.sd_names.specs.declared.meaning.Meaning.TheVariants.{Symbol, Variable, Program as Program_name, Worker, Input, Output, Local}
use Rattle.sd_names.specs.declared.meaning.Signature.{Signature}
use Rattle.sd_names.specs.Names.{Name, Names, listed, put, meaning_of, signature_by, with_meaning, all_meaning}
use Rattle.sd_uses.specs.Twice.{declares_local}
use Rattle.sd_context.specs.context.Declaring.{with_local, with_worker, names_behind, statement_names, connector_dimensions, element_names}
use Rattle.sd_read.proofs.readable_lemmas.kept.Affine.{none_is_not_some}
use Rattle.sd_read.proofs.readable_lemmas.kept.InForce.{listed-put}

-- each name of a program that has ended has this signature
abbrev pub AreTold : (Name → Signature → Type 0) → List (Name × Meaning) → Type 0
AreTold Tells meanings = (name : Name) (signature' : Signature) → listed meanings name ≡ Some (Program_name (Some signature')) → Tells name signature'

abbrev HasSignature : Option Meaning → Type 0
HasSignature (Some (Program_name (Some signature'))) = ⊤
HasSignature other = ⊥

abbrev pub ByTest : Bool → (own other : Type 0) → Type 0
ByTest true own other = own
ByTest false own other = other

module _ (Tells : Name → Signature → Type 0) where
  put_told : (meanings : List (Name × Meaning)) (name : Name) (meaning : Meaning) → (HasSignature (Some meaning) → ⊥) → AreTold Tells meanings → AreTold Tells (put meanings name meaning)
  put_told meanings name meaning none told wanted signature' is = by_test (bytes_eq wanted name) (sym (listed-put meanings name meaning wanted) ∙ is) where
    by_test : (test : Bool) → (if test then Some meaning else listed meanings wanted) ≡ Some (Program_name (Some signature')) → Tells wanted signature'
    by_test true is = absurd (none (subst HasSignature (sym is) tt))
    by_test false is = told wanted signature' is

  variables_told : (parameters : List Name) (names : Names) → AreTold Tells names.meanings → AreTold Tells (all_meaning Variable names parameters).meanings
  variables_told [] names told = told
  variables_told (parameter ∷ parameters) names told = variables_told parameters (with_meaning names parameter Variable) (put_told names.meanings parameter Variable (λ none. none) told)

  local_told : (names : Names) (name : Name) → AreTold Tells names.meanings → AreTold Tells (with_local names name).meanings
  local_told names name told = by_test (declares_local (meaning_of names name)) where
    by_test : (test : Bool) → AreTold Tells (if test then with_meaning names name Local else names).meanings
    by_test true = put_told names.meanings name Local (λ none. none) told
    by_test false = told

  worker_told : (worker : Option Name) (names : Names) → AreTold Tells names.meanings → AreTold Tells (with_worker worker names).meanings
  worker_told None names told = told
  worker_told (Some name) names told = put_told names.meanings name Worker (λ none. none) told

  element_told : (scoped : Bool) (names : Names) (element : Name) → AreTold Tells names.meanings → AreTold Tells (element_names scoped names element).meanings
  element_told true names element told = put_told names.meanings element (Input 0) (λ none. none) told
  element_told false names element told = told

  pub statement_told : (names : Names) (s : StatementTree) → AreTold Tells names.meanings → AreTold Tells (statement_names names s).meanings
  statement_told names (map_scope at parameters ranges body) told = variables_told parameters names told
  statement_told names (for_loop at name begin end step body) told = put_told names.meanings name Variable (λ none. none) told
  statement_told names (set at name value) told = local_told names name told
  statement_told names s told = told

  pub line_told : (names : Names) (scoped : Bool) (head : HeadTree) → AreTold Tells names.meanings → AreTold Tells (names_behind names scoped head).meanings
  line_told names scoped import_line told = told
  line_told names scoped (symbol_line name quoted) told = put_told names.meanings name Symbol (λ none. none) told
  line_told names scoped program_decorator told = told
  line_told names scoped (program_head name arguments) told = put_told names.meanings name (Program_name None) (λ none. none) told
  line_told names scoped (statement_head s) told = statement_told names s told
  line_told names scoped (reduce_head lambda from to axis identity) told = told
  line_told names scoped (input_head connector memlet) told = put_told names.meanings connector (Input (connector_dimensions names memlet)) (λ none. none) told
  line_told names scoped (output_head connector memlet) told = put_told names.meanings connector (Output (connector_dimensions names memlet)) (λ none. none) told
  line_told names scoped (consume_decorator from size) told = told
  line_told names scoped (consume_head name element worker) told = worker_told worker (element_names scoped names element) (element_told scoped names element told)
  line_told names scoped (elif_head when) told = told
  line_told names scoped else_head told = told

  take_listed : (entries : List (Name × Meaning)) (count : ℕ) (name : Name) (meaning : Meaning) → listed (take count entries) name ≡ Some meaning → listed entries name ≡ Some meaning
  take_listed [] zero name meaning is = is
  take_listed [] (suc count) name meaning is = is
  take_listed (entry ∷ entries) zero name meaning is = none_is_not_some meaning is
  take_listed (entry ∷ entries) (suc count) name meaning is = by_test (bytes_eq name entry.0) is (take_listed entries count name meaning) where
    by_test : (test : Bool) → (if test then Some entry.1 else listed (take count entries) name) ≡ Some meaning → (listed (take count entries) name ≡ Some meaning → listed entries name ≡ Some meaning) →
        (if test then Some entry.1 else listed entries name) ≡ Some meaning
    by_test true is later = is
    by_test false is later = later is

  pub take_told : (meanings : List (Name × Meaning)) (count : ℕ) → AreTold Tells meanings → AreTold Tells (take count meanings)
  take_told meanings count told name signature' is = told name signature' (take_listed meanings count name _ is)

  -- a program that ends
  pub ended_told : (meanings : List (Name × Meaning)) (own : Name) (signature' : Signature) (More : Name → Signature → Type 0) →
      ((wanted : Name) (found : Signature) → ByTest (bytes_eq wanted own) (found ≡ signature') (Tells wanted found) → More wanted found) → AreTold Tells meanings →
      AreTold More (put meanings own (Program_name (Some signature')))
  ended_told meanings own signature' More so told wanted found is = so wanted found (by_test (bytes_eq wanted own) (sym (listed-put meanings own (Program_name (Some signature')) wanted) ∙ is)) where
    signature_in : Option Meaning → Signature
    signature_in (Some (Program_name (Some s))) = s
    signature_in other = signature'

    by_test : (test : Bool) → (if test then Some (Program_name (Some signature')) else listed meanings wanted) ≡ Some (Program_name (Some found)) → ByTest test (found ≡ signature') (Tells wanted found)
    by_test true is = sym (ap signature_in is)
    by_test false is = told wanted found is

-- a name with a signature means a program
pub by_signature : {P : Type 0} (meaning : Option Meaning) (signature' : Signature) → signature_by meaning ≡ Some signature' → (meaning ≡ Some (Program_name (Some signature')) → P) → P
by_signature (Some (Program_name found)) signature' is go = go (ap (λ found. Some (Program_name found)) is)
by_signature meaning signature' is go = none_is_not_some signature' is

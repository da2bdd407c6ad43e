-- A text that is written piece by piece, and what is left of it.
use Rattle.std.proofs.Common.{Result, Ok, Err, OnErr, ◌≡◌, ℕ, List, [], ◌++◌, Option, refl, ap, sym, ◌∙◌, subst, append_assoc, append-nil}
use Rattle.sd_io.specs.Sink.{Appends, AppendsPrefix}
use Rattle.sd_report.specs.write.Pieces.{AppendsAllBut}
use Rattle.sd_report.proofs.write_lemmas.SinkLemmas.{Appends-nothing, Appends-trans, AppendsPrefix-later, AppendsPrefix-none}

-- nothing is written yet
pub rest_at_first : (taken : Option (List ℕ)) (whole : List ℕ) → AppendsAllBut taken taken whole whole
rest_at_first taken whole = ([], refl, Appends-nothing taken)

-- one piece more
pub rest_later : (a b c : Option (List ℕ)) (whole rest piece others : List ℕ) → rest ≡ piece ++ others → AppendsAllBut a b whole rest → Appends b c piece → AppendsAllBut a c whole others
rest_later a b c whole rest piece others parts so_far taken = (
  so_far.0 ++ piece,
  so_far.1 ∙ ap (λ rest. so_far.0 ++ rest) parts ∙ sym (append_assoc so_far.0 piece others),
  Appends-trans a b c so_far.0 piece so_far.2 taken,
)

-- a prefix of the next piece is written
pub prefix_of_rest : (a b c : Option (List ℕ)) (whole rest piece others : List ℕ) → rest ≡ piece ++ others → AppendsAllBut a b whole rest → AppendsPrefix b c piece → AppendsPrefix a c whole
prefix_of_rest a b c whole rest piece others parts so_far prefix =
    AppendsPrefix-later a b c whole so_far.0 piece others (so_far.1 ∙ ap (λ rest. so_far.0 ++ rest) parts) so_far.2 prefix

-- nothing more is written
pub rest_unwritten : (a b : Option (List ℕ)) (whole rest : List ℕ) → AppendsAllBut a b whole rest → AppendsPrefix a b whole
rest_unwritten a b whole rest so_far = prefix_of_rest a b b whole rest [] rest refl so_far (AppendsPrefix-none b b [] (Appends-nothing b))

-- nothing is left
pub no_rest : (a b : Option (List ℕ)) (whole rest : List ℕ) → rest ≡ [] → AppendsAllBut a b whole rest → Appends a b whole
no_rest a b whole rest none so_far = subst (Appends a b) (sym (so_far.1 ∙ ap (λ rest. so_far.0 ++ rest) none ∙ append-nil so_far.0)) so_far.2

-- a prefix of the first of two pieces
pub prefix_of_first : (a b : Option (List ℕ)) (whole first second : List ℕ) → whole ≡ first ++ second → AppendsPrefix a b first → AppendsPrefix a b whole
prefix_of_first a b whole first second parts prefix = prefix_of_rest a a b whole whole first second parts (rest_at_first a whole) prefix

-- the first of two pieces, and a prefix of the second
pub prefix_of_second : (a b c : Option (List ℕ)) (whole first second : List ℕ) → whole ≡ first ++ second → Appends a b first → AppendsPrefix b c second → AppendsPrefix a c whole
prefix_of_second a b c whole first second parts taken prefix =
    AppendsPrefix-later a b c whole first second [] (parts ∙ ap (λ piece. first ++ piece) (sym (append-nil second))) taken prefix

-- both pieces
pub both_pieces : (a b c : Option (List ℕ)) (whole first second : List ℕ) → whole ≡ first ++ second → Appends a b first → Appends b c second → Appends a c whole
both_pieces a b c whole first second parts taken also = subst (Appends a c) (sym parts) (Appends-trans a b c first second taken also)

-- a fact holds whatever the error
pub any_err : {T E : Type 0} (r : Result T E) (P : Type 0) → P → OnErr r P
any_err (Ok value) P holds = tt
any_err (Err error) P holds = holds

-- Pieces that a sink takes one after another.
use Rattle.std.proofs.Common.{Err, IsErrOf, zero, suc, ◌≡◌, ℕ, ◌+◌, ◌≤◌, List, [], ◌∷◌, ◌++◌, take, Option, Some, None, refl, ap, sym, ◌∙◌, subst, arith, append_assoc, append-nil, length}
use Rattle.std.proofs.Math.Seq.{take-append-add, take-length}
use Rattle.sd_io.specs.Count.{HasRisen}
use Rattle.sd_io.specs.declared.sink.SinkError.{SinkError}
use Rattle.sd_io.specs.declared.sink.SinkError.TheVariants.{Failed, Memory}
use Rattle.sd_io.specs.Sink.{Appends, AppendsPrefix}

pub Appends-trans : (a b c : Option (List ℕ)) (x y : List ℕ) → Appends a b x → Appends b c y → Appends a c (x ++ y)
Appends-trans None b c x y p q = tt
Appends-trans (Some s) b c x y p q = (subst (λ b'. Appends b' c y) p q) ∙ ap Some (append_assoc s x y)

-- a count that rose later has risen
pub HasRisen-later : (a b c : ℕ) → a ≤ b → HasRisen b c → HasRisen a c
HasRisen-later a b c p q = omega arith

pub HasRisen-earlier : (a b c : ℕ) → HasRisen a b → b ≤ c → HasRisen a c
HasRisen-earlier a b c p q = omega arith

-- a prefix of a list is one of a longer list
longer : (count : ℕ) (piece others : List ℕ) → (more : ℕ) × (take more (piece ++ others) ≡ take count piece)
longer zero piece others = (0, refl)
longer (suc count) [] others = (0, refl)
longer (suc count) (byte ∷ piece) others = let shorter = longer count piece others in (suc shorter.0, ap (λ bytes. byte ∷ bytes) shorter.1)

-- a front that was taken, and then a prefix of the next piece, is a prefix of the whole
pub AppendsPrefix-later : (a b c : Option (List ℕ)) (whole front piece others : List ℕ) → whole ≡ front ++ (piece ++ others) →
    Appends a b front → AppendsPrefix b c piece → AppendsPrefix a c whole
AppendsPrefix-later a b c whole front piece others parts taken prefix =
    let more = longer prefix.0 piece others in (
      length front + more.0,
      subst (Appends a c)
          (sym (ap (take (length front + more.0)) parts ∙ take-append-add front (piece ++ others) more.0 ∙ ap (λ rest. front ++ rest) more.1))
          (Appends-trans a b c front (take prefix.0 piece) taken prefix.1),
    )

pub AppendsPrefix-none : (a b : Option (List ℕ)) (whole : List ℕ) → Appends a b [] → AppendsPrefix a b whole
AppendsPrefix-none a b whole nothing = (0, nothing)

pub AppendsPrefix-whole : (a b : Option (List ℕ)) (whole : List ℕ) → Appends a b whole → AppendsPrefix a b whole
AppendsPrefix-whole a b whole all = (length whole, subst (Appends a b) (sym (take-length whole)) all)

-- whatever the error, a prefix was taken
pub AppendsPrefix-error : {T : Type 0} (error : SinkError) (a b : Option (List ℕ)) (piece : List ℕ) →
    (IsErrOf {T = T} (Err error) Failed → AppendsPrefix a b piece) → (IsErrOf {T = T} (Err error) Memory → Appends a b []) → AppendsPrefix a b piece
AppendsPrefix-error Failed a b piece failed memory = failed refl
AppendsPrefix-error Memory a b piece failed memory = AppendsPrefix-none a b piece (memory refl)

-- nothing was written
pub Appends-nothing : (taken : Option (List ℕ)) → Appends taken taken []
Appends-nothing None = tt
Appends-nothing (Some bytes) = ap Some (sym (append-nil bytes))

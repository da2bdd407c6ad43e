-- A text that is written part by part.
use Rattle.std.proofs.Common.{◌≡◌, ℕ, ℤ, List, [], ◌∷◌, ◌++◌, Option, ap, sym, ◌∙◌, append_assoc}
use Rattle.std.proofs.lemmas.List.Concat.{flat_map-append}
use Rattle.std.specs.Fmt.{signed_decimal}
use Rattle.sd_json.specs.AnswerText.{cells_text}
use Rattle.sd_report.specs.write.Pieces.{AppendsAllBut}
use Rattle.sd_report.proofs.write_lemmas.SinkLemmas.{Appends-trans}

module _ {Cell : Type 0} (element : Cell → ℤ) where
  -- the text of cells and of those behind them
  text_append : (first second : List Cell) → cells_text element (first ++ second) ≡ cells_text element first ++ cells_text element second
  text_append first second = flat_map-append (λ cell. 32 ∷ signed_decimal (element cell)) first second

  -- a line with the text of a part, and then of others
  pub part_of_line : (begin front line : List ℕ) (cells done rest part others : List Cell) → cells ≡ done ++ rest → rest ≡ part ++ others → begin ++ cells_text element done ≡ front ++ line →
      begin ++ cells_text element cells ≡ front ++ ((line ++ cells_text element part) ++ cells_text element others)
  part_of_line begin front line cells done rest part others all cut so_far =
      ap (λ all. begin ++ cells_text element all) (all ∙ ap (λ rest. done ++ rest) cut)
      ∙ ap (λ text. begin ++ text) (text_append done (part ++ others) ∙ ap (λ text. cells_text element done ++ text) (text_append part others))
      ∙ sym (append_assoc begin (cells_text element done) (cells_text element part ++ cells_text element others))
      ∙ ap (λ text. text ++ (cells_text element part ++ cells_text element others)) so_far
      ∙ append_assoc front line (cells_text element part ++ cells_text element others)
      ∙ ap (λ text. front ++ text) (sym (append_assoc line (cells_text element part) (cells_text element others)))

  -- what is written with a part more
  pub part_written : (before between now : Option (List ℕ)) (begin line next : List ℕ) (done part : List Cell) →
      AppendsAllBut before between (begin ++ cells_text element done) line → AppendsAllBut between now (line ++ cells_text element part) next →
      AppendsAllBut before now (begin ++ cells_text element (done ++ part)) next
  part_written before between now begin line next done part first second = (
    first.0 ++ second.0,
    ap (λ text. begin ++ text) (text_append done part)
        ∙ sym (append_assoc begin (cells_text element done) (cells_text element part))
        ∙ ap (λ text. text ++ cells_text element part) first.1
        ∙ append_assoc first.0 line (cells_text element part)
        ∙ ap (λ text. first.0 ++ text) second.1
        ∙ sym (append_assoc first.0 second.0 next),
    Appends-trans _ _ _ _ _ first.2 second.2,
  )

-- a line that ends with a newline, behind what is written of it
pub line_ended : (whole begin text front line : List ℕ) → whole ≡ begin ++ (text ++ 10 ∷ []) → begin ++ text ≡ front ++ line → whole ≡ front ++ (line ++ 10 ∷ [])
line_ended whole begin text front line is so_far =
    is ∙ sym (append_assoc begin text (10 ∷ [])) ∙ ap (λ bytes. bytes ++ 10 ∷ []) so_far ∙ append_assoc front line (10 ∷ [])

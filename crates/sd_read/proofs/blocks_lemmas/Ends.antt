-- The end of a loop names what is in force before it, and the loop's variable is not.
use Rattle.std.proofs.Common.{◌≡◌, ℕ, [], ◌∷◌, ◌++◌, map, Bool, true, false, not, ◌||◌, Option, Some, None, is_some, bytes_eq, refl, sym, subst}
use Rattle.std.specs.List.{list_any}
use Rattle.std.proofs.lemmas.Slice.Eq.{bytes_eq-Decides}
use Rattle.sd_lex.specs.PlainTree.{Expression, number, named, element_at, one, two, choice, StatementTree, for_loop, no_statement}
use Rattle.sd_line.specs.declared.line.head.BlockKind.{BlockKind}
use Rattle.sd_line.specs.declared.line.head.BlockKind.TheVariants.{Top, Program, Scope, Tasklet}
use Rattle.sd_line.specs.line.Head.{statement_head}
use Rattle.sd_names.specs.declared.meaning.Meaning.{Meaning}
use Rattle.sd_names.specs.Names.{Name, Names, meaning_of, container_of, is_free, is_among, reserved, is_number_kind}
use Rattle.sd_names.specs.Expressions.{optional}
use Rattle.sd_uses.specs.UnknownName.{has_unknown, is_unknown_use}
use Rattle.sd_uses.specs.Uses.{bound}
use Rattle.sd_refusal.specs.declared.site.Site.{Site}
use Rattle.sd_context.specs.blocks.Closing.{branch_with}
use Rattle.sd_read.proofs.readable_lemmas.kept.NewNames.{first_new, declares_new}
use Rattle.sd_read.proofs.readable_lemmas.kept.Passing.{Passes, neither}
use Rattle.sd_read.proofs.readable_lemmas.kept.Trees.{bare, HoldsOfLines}
use Rattle.sd_read.specs.blocks.Blocks.{NamesOthers, HasOtherEnd}

unmeant : (names : Names) (name : Name) → is_free names name ≡ true → is_some (meaning_of names name) ≡ false
unmeant names name free =
    let none = by_not (is_among reserved name || is_some (meaning_of names name) || is_some (container_of names name) || is_among names.declared name) free in
    let first = neither (is_among reserved name || is_some (meaning_of names name) || is_some (container_of names name)) (is_among names.declared name) none in
    (neither (is_among reserved name) (is_some (meaning_of names name)) (neither (is_among reserved name || is_some (meaning_of names name)) (is_some (container_of names name)) first.0).0).1 where
      by_not : (test : Bool) → not test ≡ true → test ≡ false
      by_not true is = sym is
      by_not false is = refl

-- what is no number is not in force
unnumbered : (meaning : Option Meaning) → is_some meaning ≡ false → is_number_kind meaning ≡ false
unnumbered None none = refl
unnumbered (Some meaning) none = cc

module _ (names : Names) (name : Name) (new : is_some (meaning_of names name) ≡ false) where
  another : (other : Name) → not (is_number_kind (meaning_of names other)) ≡ false → (same : Bool) → bytes_eq other name ≡ same → same ≡ false
  another other known false e = refl
  another other known true e =
      let same : other ≡ name = (bytes_eq-Decides other name).0 e in
      let none : is_number_kind (meaning_of names other) ≡ false = unnumbered (meaning_of names other) (subst (λ name. is_some (meaning_of names name) ≡ false) (sym same) new) in
      cc

  names_others : (expression : Expression) → has_unknown names expression ≡ false → NamesOthers name expression
  names_others (number value) known = tt
  names_others (named other) known = another other known (bytes_eq other name) refl
  names_others (element_at array at) known = tt
  names_others (one sign of) known = names_others of known
  names_others (two sign left right) known =
      let halves = neither (has_unknown names left) (has_unknown names right) known in (names_others left halves.0, names_others right halves.1)
  names_others (choice value when other) known =
      let all = neither (has_unknown names value || has_unknown names when) (has_unknown names other) known in
      let first = neither (has_unknown names value) (has_unknown names when) all.0 in
      (names_others value first.0, (names_others when first.1, names_others other all.1))

end_known : (names : Names) (begin : Option Expression) (end : Expression) → list_any (is_unknown_use names) (map bound (optional begin ++ end ∷ [])) ≡ false → has_unknown names end ≡ false
end_known names None end known = (neither (has_unknown names end) false known).0
end_known names (Some begin) end known =
    (neither (has_unknown names end) false (neither (has_unknown names begin) (has_unknown names end || false) known).1).0

-- of a line that is accepted
said_other : (names : Names) (site : Site) (s : StatementTree) → Passes names site (statement_head s) → HasOtherEnd (bare s)
said_other names site (for_loop line name begin end step body) passed =
    let free = first_new names name [] (declares_new names site (statement_head (for_loop line name begin end step body)) passed) in
    names_others names name (unmeant names name free) end (end_known names begin end passed.known)
said_other names site s passed = tt

fill_other : (s : StatementTree) → HasOtherEnd (bare s) → HasOtherEnd s
fill_other (for_loop line name begin end step body) holds = holds
fill_other s holds = tt

branch_other : (kind : BlockKind) (line : ℕ) (when : Expression) → HasOtherEnd (branch_with kind (record { line = line; when = when; statements = [] }) no_statement)
branch_other Top line when = tt
branch_other Program line when = tt
branch_other Scope line when = tt
branch_other Tasklet line when = tt

pub other_ends_hold : HoldsOfLines HasOtherEnd
other_ends_hold = record {
  fill = λ s small. fill_other s;
  moved = λ line other when holds. holds;
  moved_inside = λ line other when holds. holds;
  said = λ names site s of passed. said_other names site s passed;
  reduced = λ line lambda from to axis identity. tt;
  taken = λ line from size name element worker. tt;
  put_in = λ names site line connector memlet on passed. tt;
  put_out = λ names site line connector memlet on passed. tt;
  other = λ names site line when passed. branch_other site.kind line when;
}

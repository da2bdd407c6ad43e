-- What a line that is not refused keeps of what is counted.
use Rattle.std.proofs.Common.{◌≡◌, ◌≤◌, ◌+◌, nat_lt, ◌||◌, false, Ok, Err, Result, refl, subst}
use Rattle.std.specs.List.{list_any}
use Rattle.std.proofs.lemmas.Bool.{ltb-false}
use Rattle.sd_line.specs.line.Head.{HeadTree}
use Rattle.sd_names.specs.Names.{Names}
use Rattle.sd_names.specs.Expressions.{is_wide}
use Rattle.sd_refusal.specs.NotAffine.{any_bound}
use Rattle.sd_refusal.specs.OverLimit.{is_wide_or_long, counts_much, new_containers, new_states, connects_much, new_lines, call_depth}
use Rattle.sd_uses.specs.Uses.{uses}
use Rattle.sd_refusal.specs.declared.site.Counts.{Counts}
use Rattle.sd_refusal.specs.declared.site.Site.{Site}
use Rattle.sd_context.specs.declared.blocks.refusal.Refusal.{Refusal}
use Rattle.sd_read.proofs.readable_lemmas.kept.Passing.{Passes, neither}

pub record Within (names : Names) (site : Site) (head : HeadTree) : Type 0 where
  pub containers : site.counts.containers + new_containers head ≤ 256
  pub states : site.counts.states + new_states site.kind head ≤ 256
  pub lines : site.counts.lines + new_lines site.kind ≤ 1024
  pub calls : call_depth names head ≤ 8
  pub connectors : connects_much site.counts.connectors site.kind head ≡ false

pub within : (names : Names) (site : Site) (head : HeadTree) → Passes names site head → Within names site head
within names site head passed =
    let much = (neither (nat_lt 7 site.depth || list_any (any_bound (is_wide names.meanings)) (uses site.kind head) || is_wide_or_long head) (counts_much names site head) passed.limited).1 in
    let first = neither (nat_lt 256 (site.counts.containers + new_containers head) || nat_lt 256 (site.counts.states + new_states site.kind head) || connects_much site.counts.connectors site.kind head || nat_lt 1024 (site.counts.lines + new_lines site.kind)) (nat_lt 8 (call_depth names head)) much in
    let second = neither (nat_lt 256 (site.counts.containers + new_containers head) || nat_lt 256 (site.counts.states + new_states site.kind head) || connects_much site.counts.connectors site.kind head) (nat_lt 1024 (site.counts.lines + new_lines site.kind)) first.0 in
    let third = neither (nat_lt 256 (site.counts.containers + new_containers head) || nat_lt 256 (site.counts.states + new_states site.kind head)) (connects_much site.counts.connectors site.kind head) second.0 in
    let fourth = neither (nat_lt 256 (site.counts.containers + new_containers head)) (nat_lt 256 (site.counts.states + new_states site.kind head)) third.0 in
    record {
      containers = ltb-false 256 (site.counts.containers + new_containers head) fourth.0;
      states = ltb-false 256 (site.counts.states + new_states site.kind head) fourth.1;
      lines = ltb-false 1024 (site.counts.lines + new_lines site.kind) second.1;
      calls = ltb-false 8 (call_depth names head) first.1;
      connectors = third.1;
    }

abbrev found_or : Counts → Result Counts Refusal → Counts
found_or other (Ok found) = found
found_or other (Err refusal) = other

abbrev just : Counts → Result Counts Refusal
just counts = Ok counts

pub same_counts : (a b : Counts) → just a ≡ just b → a ≡ b
same_counts a b is = subst (λ r. a ≡ found_or b r) is refl

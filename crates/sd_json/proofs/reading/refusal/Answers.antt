use Rattle.std.proofs.Common.{Some, ap, refl, ◌∙◌, sym}
use Rattle.std.specs.List.{find}
use Rattle.std.specs.BTreeMap.{get_by_text}
use Rattle.sd_json.specs.Entries.{has_fault}
use Rattle.sd_json.specs.declared.error.InputError.TheVariants.{Missing, NotANumber, Ragged}
use Rattle.sd_json.specs.declared.fault.Fault.TheVariants as fault
use Rattle.sd_json.proofs.Refusals.{refused}
use Rattle.sd_json.proofs.reading.refusal.Goals as goal

pub returns-in-Some : goal.returns-in-Some
returns-in-Some c = λ members kept. ap (λ name. Some (Missing name)) c.in_ok-copy_of.ensures ∙ refused c.args.names.now (record { entries = c.args.entries.now; extra = c.args.extra }) members kept _ _ _ _ _ (c.in-Some.ensures ∙ (ap (find (λ name. has_fault fault.Missing (get_by_text c.args.entries.now name))) c.as_slice-arguments.ensures)) refl refl refl refl

pub returns-in-Some-extra : goal.returns-in-Some-extra
returns-in-Some-extra c = λ members kept. refused c.args.names.now (record { entries = c.args.entries.now; extra = c.args.extra }) members kept _ _ _ _ _ (c.in_default.ensures ∙ (ap (find (λ name. has_fault fault.Missing (get_by_text c.args.entries.now name))) c.as_slice-arguments.ensures)) (sym c.in-Some-extra.is) refl refl refl

pub returns-in-Some-first : goal.returns-in-Some-first
returns-in-Some-first c = λ members kept. ap (λ name. Some (NotANumber name)) c.in_ok-copy_of-2.ensures ∙ refused c.args.names.now (record { entries = c.args.entries.now; extra = c.args.extra }) members kept _ _ _ _ _ (c.in_default.ensures ∙ (ap (find (λ name. has_fault fault.Missing (get_by_text c.args.entries.now name))) c.as_slice-arguments.ensures)) (sym c.in_default-extra.is) (c.in-Some-first.ensures ∙ (ap (find (λ name. has_fault fault.NoSize (get_by_text c.args.entries.now name))) c.as_slice-symbols.ensures)) refl refl

pub returns-in-Some-first-2 : goal.returns-in-Some-first-2
returns-in-Some-first-2 c = λ members kept. ap (λ name. Some (NotANumber name)) c.in_ok-copy_of-3.ensures ∙ refused c.args.names.now (record { entries = c.args.entries.now; extra = c.args.extra }) members kept _ _ _ _ _ (c.in_default.ensures ∙ (ap (find (λ name. has_fault fault.Missing (get_by_text c.args.entries.now name))) c.as_slice-arguments.ensures)) (sym c.in_default-extra.is) (c.in_default-first.ensures ∙ (ap (find (λ name. has_fault fault.NoSize (get_by_text c.args.entries.now name))) c.as_slice-symbols.ensures)) (c.in-Some-first-2.ensures ∙ (ap (find (λ name. has_fault fault.NoNumber (get_by_text c.args.entries.now name))) c.as_slice-arguments.ensures)) refl

pub returns-in-Some-first-3 : goal.returns-in-Some-first-3
returns-in-Some-first-3 c = λ members kept. ap (λ name. Some (Ragged name)) c.in_ok-copy_of-4.ensures ∙ refused c.args.names.now (record { entries = c.args.entries.now; extra = c.args.extra }) members kept _ _ _ _ _ (c.in_default.ensures ∙ (ap (find (λ name. has_fault fault.Missing (get_by_text c.args.entries.now name))) c.as_slice-arguments.ensures)) (sym c.in_default-extra.is) (c.in_default-first.ensures ∙ (ap (find (λ name. has_fault fault.NoSize (get_by_text c.args.entries.now name))) c.as_slice-symbols.ensures)) (c.in_default-first-2.ensures ∙ (ap (find (λ name. has_fault fault.NoNumber (get_by_text c.args.entries.now name))) c.as_slice-arguments.ensures)) (c.in-Some-first-3.ensures ∙ (ap (find (λ name. has_fault fault.Ragged (get_by_text c.args.entries.now name))) c.as_slice-arguments.ensures))

pub returns : goal.returns
returns c = λ members kept. refused c.args.names.now (record { entries = c.args.entries.now; extra = c.args.extra }) members kept _ _ _ _ _ (c.in_default.ensures ∙ (ap (find (λ name. has_fault fault.Missing (get_by_text c.args.entries.now name))) c.as_slice-arguments.ensures)) (sym c.in_default-extra.is) (c.in_default-first.ensures ∙ (ap (find (λ name. has_fault fault.NoSize (get_by_text c.args.entries.now name))) c.as_slice-symbols.ensures)) (c.in_default-first-2.ensures ∙ (ap (find (λ name. has_fault fault.NoNumber (get_by_text c.args.entries.now name))) c.as_slice-arguments.ensures)) (c.in_default-first-3.ensures ∙ (ap (find (λ name. has_fault fault.Ragged (get_by_text c.args.entries.now name))) c.as_slice-arguments.ensures))

use Rattle.std.proofs.Common.{◌≡◌, ◌-◌, length, false, true, not, Some, refl, sym, ap, ◌∙◌, arith, rules, string_bytes, cond, bytes_eq}
use Rattle.std.specs.BTreeMap.{get_by_text}
use Rattle.std.proofs.lemmas.Map.Text.{btree_map_updates_text}
use Rattle.json.specs.Json.{read_key, value}
use Rattle.json.proofs.Grammar.{read_key-shorter}
use Rattle.serde_json.specs.Data.{no_members, put}
use Rattle.serde_json.specs.Read.{of_json, converted}
use Rattle.sd_json.specs.Entries.{entry_of}
use Rattle.sd_json.specs.Names.{is_extra}
use Rattle.sd_json.proofs.Converting.{member_read, member_refused, key_refused, members_over}
use Rattle.sd_json.proofs.Walking.{made_of}
use Rattle.sd_json.proofs.KeptNames.{one_sought, one_extra}
use Rattle.sd_json.proofs.object.read_members.Goals as goal

pub members-init : goal.members-init
members-init c = (length c.args.reader.now, no_members, omega arith, refl, c.new-kept.ensures c.args.names.now)

pub returns-in_err-name-clause-err : goal.returns-in_err-name-clause-err
returns-in_err-name-clause-err c refused = let l = c.members in l.invariant.3 ∙ key_refused (value c.args.depth) l.invariant.1 l.invariant.0 l.reader c.in_err-name.ensures.value

pub returns-in_err-entry-clause-err : goal.returns-in_err-entry-clause-err
returns-in_err-entry-clause-err c refused =
    let l = c.members in
    let named : read_key l.reader ≡ Some (Some c.in-Some.name.now, c.next_key.new.self) = grind arith in
    l.invariant.3 ∙ member_refused (value c.args.depth) l.invariant.1 l.invariant.0 c.in-Some.name.now l.reader c.next_key.new.self named (c.read_entry.ensures.err (grind arith))

pub returns-in_err-pass_entry-clause-err : goal.returns-in_err-pass_entry-clause-err
returns-in_err-pass_entry-clause-err c refused =
    let l = c.members in
    let named : read_key l.reader ≡ Some (Some c.in-Some.name.now, c.next_key.new.self) = grind arith in
    l.invariant.3 ∙ member_refused (value c.args.depth) l.invariant.1 l.invariant.0 c.in-Some.name.now l.reader c.next_key.new.self named (c.pass_entry.ensures.err (grind arith))

pub members-preserved-then-contains : goal.members-preserved-then-contains
members-preserved-then-contains c =
    let p = value c.args.depth in
    let l = c.members in
    let n = l.invariant.0 in
    let old = l.invariant.1 in
    let k = c.in-Some.name.now in
    let s = c.next_key.new.self in
    let named : read_key l.reader ≡ Some (Some k, s) = grind arith in
    let done = c.in_ok-entry.ensures in
    let r = c.read_entry.new.reader in
    let m = made_of entry_of (converted of_json (p s)) c.in_ok-entry.entry r done.ok in
    let less = read_key-shorter l.reader (Some k) s named in
    let lesser = done.shorter in
    let copied : string_bytes c.in_ok-key.key ≡ k = search rules in
    let known : is_extra c.args.names.now k ≡ false = c.in_ok-wanted.ensures k ∙ ap not (sym c.contains.ensures ∙ c.if-contains.true) in (
      n - 1,
      put k m.0 old,
      omega (arith, l.invariant.2),
      l.invariant.3 ∙ member_read p old n k l.reader s r m.0 (omega (arith, l.invariant.2)) named m.1,
      one_sought c.args.names.now l.kept _ old k m.0 l.invariant.4 c.in_ok-entry.entry known m.2
          (λ name. btree_map_updates_text (string_bytes c.in_ok-key.key) l.kept.entries c.insert.new.self (Some c.in_ok-entry.entry) c.in_ok-insert.ensures.updates name
          ∙ ap (λ bytes. cond (bytes_eq bytes name) (Some c.in_ok-entry.entry) (get_by_text l.kept.entries name)) copied) refl,
    )

pub members-preserved : goal.members-preserved
members-preserved c =
    let p = value c.args.depth in
    let l = c.members in
    let n = l.invariant.0 in
    let old = l.invariant.1 in
    let k = c.in-Some.name.now in
    let s = c.next_key.new.self in
    let named : read_key l.reader ≡ Some (Some k, s) = grind arith in
    let done = c.in_ok-pass_entry.ensures in
    let r = c.pass_entry.new.reader in
    let less = read_key-shorter l.reader (Some k) s named in
    let lesser = done.shorter in
    let extra : is_extra c.args.names.now k ≡ true = c.in_ok-wanted.ensures k ∙ ap not (sym c.contains.ensures ∙ c.if-contains.false) in (
      n - 1,
      put k done.ok.0 old,
      omega (arith, l.invariant.2),
      l.invariant.3 ∙ member_read p old n k l.reader s r done.ok.0 (omega (arith, l.invariant.2)) named done.ok.1,
      one_extra c.args.names.now l.kept c.note.new.self old k done.ok.0 l.invariant.4 extra c.in_ok-note.ensures.entries c.in_ok-note.ensures.extra,
    )

pub returns-clause-ok : goal.returns-clause-ok
returns-clause-ok c =
    let l = c.members in
    (l.invariant.1, l.invariant.3 ∙ members_over (value c.args.depth) l.invariant.1 l.invariant.0 l.reader c.next_key.new.self l.invariant.2 (grind arith), l.invariant.4)

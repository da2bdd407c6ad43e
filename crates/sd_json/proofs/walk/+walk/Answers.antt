use Rattle.std.proofs.Common.{◌≡◌, suc, ◌-◌, ◌<◌, [], ◌∷◌, length, Some, None, refl, sym, ap, ap₂, ◌∙◌, arith}
use Rattle.json.specs.Json.{parse_map, after_end_array, read_key, items, members, value}
use Rattle.json.specs.Reads.{token_of}
use Rattle.json.proofs.Grammar.{value-begin_array, value-begin_object, read_key-shorter}
use Rattle.std.proofs.lemmas.Result.{IfOk-weaker}
use Rattle.serde_json.specs.Data.{array, object, no_members, put}
use Rattle.sd_json.specs.NestedLists.{joined}
use Rattle.serde_json.specs.Read.{of_json, of_items, converted}
use Rattle.sd_json.specs.Walk.{value_kept, items_kept_from}
use Rattle.sd_json.proofs.Converting.{converted-array, converted-object, item_refused, items_over, member_read, member_refused, key_refused, members_over}
use Rattle.sd_json.proofs.Walking.{made_of, kept_from_begin, turn, array_kept_so, joined-empty, joined-none, none_made, none_stays, other_kept, closed_refused, nothing_refused, number_read}
use Rattle.sd_json.proofs.walk.+walk.Goals as goal

pub read_from-returns-then-depth-eq0-clause-err : goal.read_from-returns-then-depth-eq0-clause-err
unfolding value
read_from-returns-then-depth-eq0-clause-err t c never =
    let none : c.args.depth ≡ 0 = omega arith in
    ap (converted of_json) (ap₂ value none (ap (λ k. token_of k ∷ c.args.reader.now) c.in-BeginArray.is))

pub read_from-returns-then-depth-eq0-2-clause-err : goal.read_from-returns-then-depth-eq0-2-clause-err
unfolding value
read_from-returns-then-depth-eq0-2-clause-err t c never =
    let none : c.args.depth ≡ 0 = omega arith in
    ap (converted of_json) (ap₂ value none (ap (λ k. token_of k ∷ c.args.reader.now) c.in-BeginObject.is))

pub read_from-returns-in_err-pass_members-in-BeginObject-clause-err : goal.read_from-returns-in_err-pass_members-in-BeginObject-clause-err
read_from-returns-in_err-pass_members-in-BeginObject-clause-err t c refused =
    let opened = ap (converted of_json) (ap (value c.args.depth) (ap (λ k. token_of k ∷ c.args.reader.now) c.in-BeginObject.is) ∙ value-begin_object c.args.depth c.args.reader.now (omega arith)) ∙ converted-object (members (value (c.args.depth - 1)) (length c.args.reader.now) c.args.reader.now) in
    opened ∙ ap (parse_map object) (c.pass_members.ensures.err (grind arith))

pub read_from-returns-in_ok-read_leaf-in-Number-clause-ok : goal.read_from-returns-in_ok-read_leaf-in-Number-clause-ok
read_from-returns-in_ok-read_leaf-in-Number-clause-ok t c =
    ap (λ read. parse_map (value_kept c.args.numbers.now) (converted of_json read)) (number_read c.args.depth c.args.token c.in-Number.text c.args.reader.now c.in-Number.is)
    ∙ c.in_ok-read_leaf-in-Number.ensures.ok c.args.reader.now ∙ ap (λ shape. Some ((Some shape, c.read_leaf.new.numbers), c.args.reader.now)) (sym c.new.ensures)

pub read_from-returns-in_err-read_leaf-in-Number-clause-err : goal.read_from-returns-in_err-read_leaf-in-Number-clause-err
read_from-returns-in_err-read_leaf-in-Number-clause-err t c refused =
    ap (converted of_json) (number_read c.args.depth c.args.token c.in-Number.text c.args.reader.now c.in-Number.is) ∙ c.read_leaf.ensures.err (grind arith) c.args.reader.now

pub read_from-returns-in_ok-add-in-String-clause-ok : goal.read_from-returns-in_ok-add-in-String-clause-ok
read_from-returns-in_ok-add-in-String-clause-ok t c =
    other_kept c.args.depth c.args.numbers.now c.args.token c.args.reader.now c.in-String.is
    ∙ (λ i. Some ((Some (sym c.new-in-String.ensures i), sym c.in_ok-add-in-String.ensures i), c.args.reader.now))

pub read_from-returns-in-EndObject-clause-err : goal.read_from-returns-in-EndObject-clause-err
read_from-returns-in-EndObject-clause-err t c refused = closed_refused c.args.depth c.args.token c.args.reader.now c.in-EndObject.is

pub read_from-returns-else-depth-eq0-clause-ok : goal.read_from-returns-else-depth-eq0-clause-ok
read_from-returns-else-depth-eq0-clause-ok t c =
    let opened = ap (converted of_json) (ap (value c.args.depth) (ap (λ k. token_of k ∷ c.args.reader.now) c.in-BeginArray.is) ∙ value-begin_array c.args.depth c.args.reader.now (omega arith)) ∙ converted-array (items (value (c.args.depth - 1)) (length c.args.reader.now) c.args.reader.now) in
    IfOk-weaker c.read_items.result _ _ (λ shape e. ap (parse_map (value_kept c.args.numbers.now)) opened ∙ array_kept_so c.args.numbers.now (converted of_items (items (value (c.args.depth - 1)) (length c.args.reader.now) c.args.reader.now)) ∙ e) c.read_items.ensures.ok

pub read_from-returns-else-depth-eq0-clause-err : goal.read_from-returns-else-depth-eq0-clause-err
read_from-returns-else-depth-eq0-clause-err t c refused =
    let opened = ap (converted of_json) (ap (value c.args.depth) (ap (λ k. token_of k ∷ c.args.reader.now) c.in-BeginArray.is) ∙ value-begin_array c.args.depth c.args.reader.now (omega arith)) ∙ converted-array (items (value (c.args.depth - 1)) (length c.args.reader.now) c.args.reader.now) in
    opened ∙ ap (parse_map array) (c.read_items.ensures.err refused)

pub read_from-returns-in_ok-pass_members-in-BeginObject-clause-ok : goal.read_from-returns-in_ok-pass_members-in-BeginObject-clause-ok
read_from-returns-in_ok-pass_members-in-BeginObject-clause-ok t c =
    let opened = ap (converted of_json) (ap (value c.args.depth) (ap (λ k. token_of k ∷ c.args.reader.now) c.in-BeginObject.is) ∙ value-begin_object c.args.depth c.args.reader.now (omega arith)) ∙ converted-object (members (value (c.args.depth - 1)) (length c.args.reader.now) c.args.reader.now) in
    let passed = c.in_ok-pass_members-in-BeginObject.ensures in
    let before : joined c.args.numbers.now None ≡ None = joined-none c.args.numbers.now in
    let after : c.pass_members.new.numbers ≡ None = passed.none (c.in_ok-add-in-BeginObject.ensures ∙ before) in
    ap (parse_map (value_kept c.args.numbers.now)) (opened ∙ ap (parse_map object) passed.ok.1) ∙ (λ i. Some ((Some (sym c.new-in-BeginObject.ensures i), (before ∙ sym after) i), c.pass_members.new.reader))

pub read_item-returns-in_err-token-clause-err : goal.read_item-returns-in_err-token-clause-err
read_item-returns-in_err-token-clause-err t c refused = nothing_refused c.args.depth c.args.reader.now (grind arith)

pub read_item-returns-in_err-read_leaf-clause-err : goal.read_item-returns-in_err-read_leaf-clause-err
read_item-returns-in_err-read_leaf-clause-err t c refused =
    let first : c.args.reader.now ≡ token_of c.in_ok-token.token ∷ c.next.new.self = grind arith in
    ap (converted of_json) (ap (value c.args.depth) first ∙ number_read c.args.depth c.in_ok-token.token c.in-Number.text c.next.new.self c.in-Number.is) ∙ c.read_leaf.ensures.err (grind arith) c.next.new.self

pub read_item-returns-in_err-shape-clause-err : goal.read_item-returns-in_err-shape-clause-err
read_item-returns-in_err-shape-clause-err t c refused =
    let first : c.args.reader.now ≡ token_of c.in_ok-token.token ∷ c.next.new.self = grind arith in
    ap (λ ts. converted of_json (value c.args.depth ts)) first ∙ c.read_from.ensures.err (grind arith)

pub read_item-returns-in_ok-add_leaf-clause-ok : goal.read_item-returns-in_ok-add_leaf-clause-ok
read_item-returns-in_ok-add_leaf-clause-ok t c =
    let first : c.args.reader.now ≡ token_of c.in_ok-token.token ∷ c.next.new.self = grind arith in
    (Some [], ap (λ read. parse_map (value_kept c.args.numbers.now) (converted of_json read)) (ap (value c.args.depth) first ∙ number_read c.args.depth c.in_ok-token.token c.in-Number.text c.next.new.self c.in-Number.is) ∙ c.in_ok-read_leaf.ensures.ok c.next.new.self, c.in_ok-add_leaf.ensures)

pub read_items-items-init : goal.read_items-items-init
read_items-items-init t c =
    let all = converted of_items (items (value c.args.depth) (length c.args.reader.now) c.args.reader.now) in
    (length c.args.reader.now, omega arith, kept_from_begin c.args.numbers.now all ∙ ap (λ rows. parse_map (items_kept_from rows c.args.numbers.now) all) (sym c.new-rows.ensures), omega arith)

pub read_items-returns-in_err-read_item-clause-err : goal.read_items-returns-in_err-read_item-clause-err
read_items-returns-in_err-read_item-clause-err t c refused =
    let p = value c.args.depth in
    let l = c.items in
    let going : (after_end_array l.reader ≡ None) × (c.take_end_array.new.self ≡ l.reader) = grind arith in
    none_made _ _ (l.invariant.2 ∙ ap (parse_map (items_kept_from l.rows l.numbers)) (item_refused p l.invariant.0 l.reader going.0 (rw (← going.1) (c.read_item.ensures.err (grind arith)))))

pub read_items-items-preserved : goal.read_items-items-preserved
read_items-items-preserved t c =
    let p = value c.args.depth in
    let l = c.items in
    let n = l.invariant.0 in
    let going : (after_end_array l.reader ≡ None) × (c.take_end_array.new.self ≡ l.reader) = grind arith in
    let done = c.in_ok-read_item.ensures in
    let r = c.read_item.new.reader in
    let less : length r < length l.reader = rw (← going.1) done.shorter in (
      n - 1,
      omega (arith, l.invariant.1),
      l.invariant.2 ∙ turn p n l.reader r l.rows l.numbers c.read_item.new.numbers done.ok.0 (omega (arith, l.invariant.1)) going.0 (rw (← going.1) done.ok.1)
          ∙ ap (λ rows. parse_map (items_kept_from rows c.read_item.new.numbers) (converted of_items (items p (n - 1) r))) (sym done.ok.2),
      omega (arith, l.invariant.3),
    )

pub read_items-returns-clause-ok : goal.read_items-returns-clause-ok
read_items-returns-clause-ok t c =
    let p = value c.args.depth in
    let l = c.items in
    let r = c.take_end_array.new.self in
    l.invariant.2 ∙ ap (parse_map (items_kept_from l.rows l.numbers)) (items_over p l.invariant.0 l.reader r l.invariant.1 (grind arith))
    ∙ (λ i. Some ((sym c.in_ok-into_shape.ensures i, joined-empty l.numbers i), r))

pub pass_members-members-init : goal.pass_members-members-init
pass_members-members-init t c = (length c.args.reader.now, no_members, omega arith, refl, omega arith, λ none. none)

pub pass_members-returns-in_err-name-clause-err : goal.pass_members-returns-in_err-name-clause-err
pass_members-returns-in_err-name-clause-err t c refused =
    let l = c.members in
    l.invariant.3 ∙ key_refused (value c.args.depth) l.invariant.1 l.invariant.0 l.reader c.in_err-name.ensures.value

pub pass_members-returns-in_err-token-clause-err : goal.pass_members-returns-in_err-token-clause-err
pass_members-returns-in_err-token-clause-err t c refused =
    let l = c.members in
    let k = c.in-Some.name.now in
    let s = c.next_key.new.self in
    let named : read_key l.reader ≡ Some (Some k, s) = grind arith in
    l.invariant.3 ∙ member_refused (value c.args.depth) l.invariant.1 l.invariant.0 k l.reader s named (nothing_refused c.args.depth s (grind arith))

pub pass_members-returns-in_err-read_from-clause-err : goal.pass_members-returns-in_err-read_from-clause-err
pass_members-returns-in_err-read_from-clause-err t c refused =
    let l = c.members in
    let k = c.in-Some.name.now in
    let s = c.next_key.new.self in
    let named : read_key l.reader ≡ Some (Some k, s) = grind arith in
    let first : s ≡ token_of c.in_ok-token.token ∷ c.next.new.self = grind arith in
    l.invariant.3 ∙ member_refused (value c.args.depth) l.invariant.1 l.invariant.0 k l.reader s named (ap (λ ts. converted of_json (value c.args.depth ts)) first ∙ c.read_from.ensures.err (grind arith))

pub pass_members-members-preserved-in_ok-read_from : goal.pass_members-members-preserved-in_ok-read_from
pass_members-members-preserved-in_ok-read_from t c =
    let p = value c.args.depth in
    let l = c.members in
    let n = l.invariant.0 in
    let k = c.in-Some.name.now in
    let s = c.next_key.new.self in
    let named : read_key l.reader ≡ Some (Some k, s) = grind arith in
    let first : s ≡ token_of c.in_ok-token.token ∷ c.next.new.self = grind arith in
    let done = c.in_ok-read_from.ensures in
    let r = c.read_from.new.reader in
    let m = made_of (value_kept l.numbers) (converted of_json (p s)) (c.in_ok-read_from.field-0, c.read_from.new.numbers) r (ap (λ ts. parse_map (value_kept l.numbers) (converted of_json (p ts))) first ∙ done.ok) in
    let less = read_key-shorter l.reader (Some k) s named in
    let behind : suc (length c.next.new.self) ≡ length s = ap length (sym first) in
    let lesser = done.shorter in (
      n - 1,
      put k m.0 l.invariant.1,
      omega (arith, l.invariant.2),
      l.invariant.3 ∙ member_read p l.invariant.1 n k l.reader s r m.0 (omega (arith, l.invariant.2)) named m.1,
      omega (arith, l.invariant.4),
      λ none. none_stays l.numbers c.read_from.new.numbers c.in_ok-read_from.field-0 m.0 m.2 (l.invariant.5 none),
    )

pub pass_members-members-preserved : goal.pass_members-members-preserved
pass_members-members-preserved t c =
    let p = value c.args.depth in
    let l = c.members in
    let n = l.invariant.0 in
    let k = c.in-Some.name.now in
    let s = c.next_key.new.self in
    let named : read_key l.reader ≡ Some (Some k, s) = grind arith in
    let first : s ≡ token_of c.in_ok-token.token ∷ c.next.new.self = grind arith in
    let done = c.in_ok-read_from.ensures in
    let r = c.read_from.new.reader in
    let m = made_of (value_kept l.numbers) (converted of_json (p s)) (c.in_ok-read_from.field-0, c.read_from.new.numbers) r (ap (λ ts. parse_map (value_kept l.numbers) (converted of_json (p ts))) first ∙ done.ok) in
    let less = read_key-shorter l.reader (Some k) s named in
    let behind : suc (length c.next.new.self) ≡ length s = ap length (sym first) in
    let lesser = done.shorter in (
      n - 1,
      put k m.0 l.invariant.1,
      omega (arith, l.invariant.2),
      l.invariant.3 ∙ member_read p l.invariant.1 n k l.reader s r m.0 (omega (arith, l.invariant.2)) named m.1,
      omega (arith, l.invariant.4),
      λ none. none_stays l.numbers c.read_from.new.numbers c.in_ok-read_from.field-0 m.0 m.2 (l.invariant.5 none),
    )

pub pass_members-returns-clause-ok : goal.pass_members-returns-clause-ok
pass_members-returns-clause-ok t c =
    let l = c.members in
    (l.invariant.1, l.invariant.3 ∙ members_over (value c.args.depth) l.invariant.1 l.invariant.0 l.reader c.next_key.new.self l.invariant.2 (grind arith))

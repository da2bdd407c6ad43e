-- The items of a body, settled so far.
use Rattle.std.proofs.Common.{◌≡◌, ℕ, zero, suc, ◌+◌, ◌≤◌, nat_lt, List, [], ◌∷◌, ◌++◌, length, take, drop, map, slice_set, slice_index_or, Bool, true, false, if◌then◌else◌, not, ◌&&◌, ◌*◌, refl, sym, ap, ap₂, ◌∙◌, subst, arith}
use Rattle.std.proofs.lemmas.Bool.{le-ltb}
use Rattle.std.specs.List.{sum}
use Rattle.sd_list.specs.tally.Found.{IsFound}
use Rattle.sd_list.specs.declared.tally.nodes.Found.{Found}
use Rattle.sd_work.specs.Memory.{Memories}
use Rattle.sd_work.specs.Residual.{Items, Terms, list, is_ready}
use Rattle.sd_work.specs.Settle.{settle, settle_parts, is_first_left}
use Rattle.sd_moves.proofs.settling_lemmas.Staying.{later-ready}
use Rattle.sd_graph.specs.PlainTree.{ItemTrees}
use Rattle.sd_graph.specs.Context.{Context}
use Rattle.sd_graph.specs.declared.place.Place.{Place}
use Rattle.sd_order.specs.table.Told.{told}
use Rattle.sd_order.specs.declared.table.order.Order.{Order}
use Rattle.sd_left.specs.tree.Standing.{BodyLeft, body_left}
use Rattle.sd_left.specs.declared.left.left.Left.{Left as LeftNow}
use Rattle.sd_left.specs.declared.left.left.Body.{Body as BodyNow}
use Rattle.sd_left.specs.declared.left.left.Left.TheViews.{out-Body}
use Rattle.sd_left.specs.left.Kept.{body_kept}
use Rattle.sd_left.specs.left.Waits.{is_counted}
use Rattle.sd_left.specs.left.Telling.{Telling, flags_told, unfinished_told, pools_told, ready_moves, all_right}
use Rattle.sd_left.specs.left.Tells.{tells, body_tells}
use Rattle.sd_left.proofs.left_lemmas.Sameness.{Were, were}
use Rattle.sd_left.proofs.left_lemmas.Rolls.{body_opened}
use Rattle.sd_left.proofs.left_lemmas.TellRolls.{body_told}
use Rattle.sd_left.proofs.left_lemmas.Readiness.{member-there}
use Rattle.sd_fire.specs.settle.Cleared.{ClearsTo}
use Rattle.sd_fire.specs.settle.Settled.{AreItemsSettled, IsPartSettled}
use Rattle.sd_fire.proofs.settle_lemmas.Sums.{found-behind, none-behind, whole}
use Rattle.sd_fire.proofs.settle_lemmas.Cleared.{clear-here}
use Rattle.sd_fire.proofs.settle_lemmas.Laid.{laid, flags_at, settled_from, settled-all, passed-over, passed-rest, one-settled}
use Rattle.sd_fire.proofs.settle_lemmas.Held.{as-many, fused, same-size, IsFar, far-begin, far-next, far-end}
use Rattle.sd_fire.proofs.settle_lemmas.Trees.{pools_in, parts-calm, item_place, parts-laid, parts-counted, part-flags}

abbrev pub all_parts : BodyNow → List LeftNow
all_parts body = (out-Body body).parts.items

abbrev pub order_of : BodyNow → ℕ → ℕ → Bool
order_of body = told (out-Body body).order

-- the counts of a body that are right
pub body-were : (body : BodyNow) → (body_tells body).is_right ≡ true
    → Were (out-Body body).moves (ready_moves (order_of body) (flags_told (map tells (all_parts body))) 0 (map tells (all_parts body))) (out-Body body).unfinished (unfinished_told (map tells (all_parts body))) (out-Body body).«open» (pools_told (map tells (all_parts body))) (all_right (map tells (all_parts body)))
body-were body right =
    were (out-Body body).moves (ready_moves (order_of body) (flags_told (map tells (all_parts body))) 0 (map tells (all_parts body))) (out-Body body).unfinished (unfinished_told (map tells (all_parts body))) (out-Body body).«open» (pools_told (map tells (all_parts body))) (all_right (map tells (all_parts body)))
    (sym (ap (λ (t : Telling). t.is_right) (body_told body)) ∙ right)

pub body-open : (body : BodyNow) → (body_tells body).is_right ≡ true → (out-Body body).«open» ≡ map pools_in (all_parts body)
body-open body right = (body-were body right).pools_are ∙ fused tells (λ (t : Telling). t.pools) (all_parts body)

-- no later item is before an item
later-not-before : (order : Order) (number other : ℕ) → number ≤ other → told order other number ≡ false
later-not-before order number other most =
    ap (λ (so : Bool). if so && nat_lt number order.count then slice_index_or order.table.items (number * order.count + other) false else false) (le-ltb other number most)

parted : {A : Type 0} (number : ℕ) (all : List A) → all ≡ take number all ++ drop number all
parted zero [] = refl
parted zero (one ∷ all) = refl
parted (suc number) [] = refl
parted (suc number) (one ∷ all) = ap (λ (rest : List _). one ∷ rest) (parted number all)

long-enough : {A : Type 0} (number : ℕ) (all : List A) → number ≤ length all → length (take number all) ≡ number
long-enough zero [] most = refl
long-enough zero (one ∷ all) most = refl
long-enough (suc number) [] most = absurd (omega (arith, most))
long-enough (suc number) (one ∷ all) most = ap suc (long-enough number all (omega (arith, most)))

-- so the flags of the earlier items tell whether one may go on
pub ready-by-earlier : (order : Order) (flags : List Bool) (number : ℕ) → number ≤ length flags → is_ready (told order) flags number ≡ is_ready (told order) (take number flags) number
ready-by-earlier order flags number most =
    ap (λ (all : List Bool). is_ready (told order) all number) (parted number flags)
    ∙ later-ready (told order) (take number flags) (drop number flags) number
    (λ other above. later-not-before order number other (let size = long-enough number flags most in omega (arith, size, above)))

module _ (may_go : Bool) (clear : ℕ) (memories : Memories) where
  -- the items that are settled after some turns, and those behind them as they were
  pub record ItemsSoFar (old now : BodyNow) (turns unit : ℕ) : Type 0 where
    pub reached : ℕ
    pub far : IsFar is_counted pools_in memories (all_parts now) turns unit reached
    pub settled : (cleared : List Bool) → ClearsTo cleared clear → (items : ItemTrees) (context : Context)
        → settle_parts may_go cleared memories Items (order_of old) [] 0 (laid (item_place items context) 0 (all_parts old)) ≡ settled_from (item_place items context) may_go cleared memories Items (order_of old) [] 0 reached (all_parts now)
    pub size : length (all_parts now) ≡ length (all_parts old)
    pub at : (out-Body now).at ≡ (out-Body old).at
    pub order : (out-Body now).order ≡ (out-Body old).order
    pub right : (body_tells now).is_right ≡ true

  pub items-begin : (old : BodyNow) → (body_tells old).is_right ≡ true → ItemsSoFar old old 0 0
  items-begin old right = record {
    reached = 0;
    far = far-begin is_counted pools_in memories (all_parts old);
    settled = λ cleared clears items context. sym (settled-all (item_place items context) may_go cleared memories Items (order_of old) [] 0 (all_parts old));
    size = refl;
    at = refl;
    order = refl;
    right = right;
  }

  items-next : (old now new : BodyNow) (turns unit pools : ℕ) (found : Found) → ItemsSoFar old now turns unit → IsFound (out-Body now).«open» unit found
      → IsPartSettled now new found.number pools (may_go && is_ready (order_of now) (flags_told (map tells (all_parts now))) found.number) clear memories
      → ItemsSoFar old new (suc turns) (unit + pools)
  items-next old now new turns unit pools found so_far is_found one =
      let parts = all_parts now in
      let number = found.number in
      let were_right = body-were now so_far.right in
      let found_at : IsFound (map pools_in parts) unit found = subst (λ (counts : List ℕ). IsFound counts unit found) (body-open now so_far.right) is_found in
      let member = member-there parts number one.there in
      let here = one.settled member.0 member.1 in
      let next = far-next is_counted pools_in memories parts turns unit so_far.reached number found.rest one.part (parts-calm memories parts were_right.parts_are) so_far.far found_at.before found_at.inside here.counted in
      let behind = found-behind (map pools_in parts) so_far.reached number found.rest (found_at.before ∙ so_far.far.units) found_at.inside in
      let all_flags = flags_told (map tells parts) in
      let there = one.there in
      let size_one = as-many tells parts in
      let size_two = as-many (λ (t : Telling). not t.is_unfinished) (map tells parts) in
      let enough : number ≤ length all_flags = omega (arith, there, size_one, size_two) in
      let ready : is_ready (order_of now) all_flags number ≡ is_ready (order_of old) (take number all_flags) number =
      ready-by-earlier (out-Body now).order all_flags number enough ∙ ap (λ (o : Order). is_ready (told o) (take number all_flags) number) so_far.order in
      record {
        reached = suc number;
        far = subst (λ (after : List LeftNow). IsFar is_counted pools_in memories after (suc turns) (unit + pools) (suc number)) (sym one.put)
            (subst (λ (p : ℕ). IsFar is_counted pools_in memories (slice_set parts number one.part) (suc turns) (unit + p) (suc number)) (sym one.pools) next);
        settled = λ cleared clears items context.
            let place = item_place items context in
            let flags = flags_at place 0 number parts in
            let same_flags : flags ≡ take number all_flags = part-flags items context 0 number parts were_right.parts_are in
            let inner : List Bool = map (λ flag. is_first_left Items flags && flag) cleared in
            let go : (may_go && is_ready (order_of now) all_flags number) ≡ (may_go && is_ready (order_of old) flags number) =
            ap (λ (so : Bool). may_go && so) (ready ∙ ap (λ (f : List Bool). is_ready (order_of old) f number) (sym same_flags)) in
            so_far.settled cleared clears items context
            ∙ passed-over place may_go cleared memories Items (order_of old) pools_in [] 0 so_far.reached number parts (parts-counted items context parts were_right.parts_are) behind.0 behind.1
            ∙ one-settled place may_go cleared memories Items (order_of old) [] 0 number number flags parts member.0 one.part one.there member.1 (omega arith) refl
            (here.settled inner (clear-here cleared clear clears) _ _ context
            ∙ ap (λ (g : Bool). settle g inner memories (place number member.0)) go)
            ∙ ap (settled_from place may_go cleared memories Items (order_of old) [] 0 (suc number)) (sym one.put);
        size = ap (length {A = LeftNow}) one.put ∙ same-size parts number one.part ∙ so_far.size;
        at = one.at ∙ so_far.at;
        order = one.order ∙ so_far.order;
        right = one.right;
      }

  pub items-turn : (old now new : BodyNow) (turns turns_now unit unit_now pools : ℕ) (ready : Bool) (found : Found) (inside : Memories) → turns_now ≡ suc turns → unit_now ≡ unit + pools → inside ≡ memories
      → ready ≡ (may_go && is_ready (order_of now) (flags_told (map tells (all_parts now))) found.number)
      → ItemsSoFar old now turns unit → IsFound (out-Body now).«open» unit found → IsPartSettled now new found.number pools ready clear inside → ItemsSoFar old new turns_now unit_now
  items-turn old now new turns turns_now unit unit_now pools ready found inside turn more same goes so_far is_found one =
      subst (λ (t : ℕ). ItemsSoFar old new t unit_now) (sym turn)
      (subst (λ (u : ℕ). ItemsSoFar old new (suc turns) u) (sym more)
      (items-next old now new turns unit pools found so_far is_found
      (subst (λ (go : Bool). IsPartSettled now new found.number pools go clear memories) goes (subst (λ (m : Memories). IsPartSettled now new found.number pools ready clear m) same one))))

  -- the work of a body, laid out
  work-laid : (body : BodyNow) (items : ItemTrees) (context : Context) → body_left (body_kept body) items context ≡ list Items (order_of body) (laid (item_place items context) 0 (all_parts body))
  work-laid body items context = ap (λ (b : BodyLeft). body_left b items context) (body_opened body) ∙ ap (list Items (order_of body)) (parts-laid items context 0 (all_parts body))

  items-all : (old now : BodyNow) (turns unit : ℕ) (so_far : ItemsSoFar old now turns unit) → sum (take so_far.reached (map pools_in (all_parts now))) ≡ sum (map pools_in (all_parts now))
      → AreItemsSettled old now may_go clear memories
  items-all old now turns unit so_far all =
      let parts = all_parts now in
      let were_right = body-were now so_far.right in
      record {
        settled = λ cleared clears items context.
            work-laid now items context
            ∙ ap₂ (λ (o : Order) (work : Terms Place). list Items (told o) work) so_far.order
            (sym (passed-rest (item_place items context) may_go cleared memories Items (order_of old) pools_in [] 0 so_far.reached parts (parts-counted items context parts were_right.parts_are) all)
            ∙ sym (so_far.settled cleared clears items context))
            ∙ ap (settle may_go cleared memories) (sym (work-laid old items context));
        at = ap (λ (b : BodyLeft). b.at) (body_opened now) ∙ ap (λ vec. vec.items) so_far.at ∙ sym (ap (λ (b : BodyLeft). b.at) (body_opened old));
        counted = far-end is_counted pools_in memories parts turns unit so_far.reached (parts-calm memories parts were_right.parts_are) so_far.far all;
        right = so_far.right;
      }

  pub items-none : (old now : BodyNow) (turns unit : ℕ) → ItemsSoFar old now turns unit → sum (out-Body now).«open» ≤ unit → AreItemsSettled old now may_go clear memories
  items-none old now turns unit so_far most =
      let counts = map pools_in (all_parts now) in
      let units_of : sum (out-Body now).«open» ≡ sum counts = ap sum (body-open now so_far.right) in
      let units = so_far.far.units in
      items-all old now turns unit so_far (none-behind counts so_far.reached (omega (arith, most, units_of, units)))

  pub items-over : (old now : BodyNow) (turns unit : ℕ) → ItemsSoFar old now turns unit → length (all_parts old) ≤ turns → AreItemsSettled old now may_go clear memories
  items-over old now turns unit so_far over =
      let far = so_far.far.far in
      let size = so_far.size in
      let counts = as-many pools_in (all_parts now) in
      items-all old now turns unit so_far (whole (map pools_in (all_parts now)) so_far.reached (omega (arith, over, far, size, counts)))

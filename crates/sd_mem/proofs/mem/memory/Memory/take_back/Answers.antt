use Rattle.std.proofs.Common.{rules, ℕ, slice_index_or, slice_set, ◌≡◌, ◌<◌, ◌++◌, ◌∷◌, [], List, map, length, ap, sym, ◌∙◌, arith}
use Rattle.std.proofs.lemmas.List.{length-set, length-take, length-map, take_all}
use Rattle.sd_work.specs.Memory.{Memory}
use Rattle.sd_mem.specs.mem.Shaped.{Shaped}
use Rattle.sd_mem.specs.mem.Holding.{shape_held, contents_held}
use Rattle.sd_mem.specs.declared.mem.holding.Holding.{Holding}
use Rattle.sd_mem.proofs.mem_lemmas.Held.{made, shapes_kept}
use Rattle.sd_mem.proofs.mem_lemmas.Lending.{as_many_fit, before_taken, none_taken, may_be_held, is_taken, sized_set, one_more}
use Rattle.sd_mem.proofs.mem.memory.Memory.take_back.Goals as goal

abbrev shapes_of : Shaped → List (List ℕ)
shapes_of memory = memory.shapes

abbrev contents_of : Shaped → Memory
contents_of memory = memory.contents

pub loop-given-init : goal.loop-given-init
loop-given-init c =
    let count : c.len.result ≡ length c.self.inside.holdings.items = search rules in
    record {
      room = omega (arith, count, ap length c.truncate.ensures.items, length-take c.len.result c.lent.inside.holdings.items);
      sized = c.self.invariant;
      taken = λ fit. record {
        shapes_so = ap shapes_of c.self.view_is;
        contents_so = ap (λ (left : List Holding). before_taken left c.self.inside.holdings.items)
            (c.truncate.ensures.items ∙ take_all c.len.result c.lent.inside.holdings.items (omega (
              arith,
              count,
              length-map c.lent.inside.holdings.items contents_held,
              length-map c.self.inside.holdings.items shape_held,
              ap length (ap shapes_of c.self.view_is),
              ap length (ap contents_of c.lent.view_is),
              as_many_fit c.args.self.now.shapes c.args.lent.contents fit,
            )))
            ∙ none_taken c.args.self.now.shapes c.lent.inside.holdings.items c.self.inside.holdings.items c.args.lent.contents (ap shapes_of c.self.view_is) fit (ap contents_of c.lent.view_is);
      };
    }

pub index_mut-requires : goal.index_mut-requires
index_mut-requires c =
    let items : c.loop-given.holdings.items ≡ c.pop.new.self.items ++ c.in-Some.given ∷ [] = search rules in
    let count : c.len-in-Some.result ≡ length c.pop.new.self.items = search rules in
    let within : c.len-in-Some.result < length c.loop-given.self-inside.holdings.items = omega (arith, count, one_more c.pop.new.self.items c.in-Some.given, ap length items, c.loop-given.invariant.room) in
    search (rules, within)

pub loop-given-preserved : goal.loop-given-preserved
loop-given-preserved c =
    let items : c.loop-given.holdings.items ≡ c.pop.new.self.items ++ c.in-Some.given ∷ [] = search rules in
    let count : c.len-in-Some.result ≡ length c.pop.new.self.items = search rules in
    let held = c.loop-given.self-inside.holdings.items in
    let old = c.index_mut.result.now in
    let is : old ≡ slice_index_or held (length c.pop.new.self.items) old = c.index_mut.ensures.value ∙ ap (λ (n : ℕ). slice_index_or held n old) count in
    record {
      room = omega (arith, one_more c.pop.new.self.items c.in-Some.given, ap length items, c.loop-given.invariant.room, length-set held c.len-in-Some.result c.take_over.new.self);
      sized = sized_set held c.len-in-Some.result old c.take_over.new.self c.index_mut.ensures.value c.take_over.ensures.sized c.loop-given.invariant.sized;
      taken = λ fit.
          let left = c.loop-given.invariant.taken fit in
          let lent = ap (λ (left : List Holding). before_taken left held) (sym items) ∙ left.contents_so in
          record {
            shapes_so = shapes_kept held c.len-in-Some.result c.take_over.new.self old c.index_mut.ensures.value
                (c.take_over.ensures.shape (may_be_held c.args.self.now.shapes c.pop.new.self.items held c.in-Some.given old c.args.lent.contents left.shapes_so fit lent is)) ∙ left.shapes_so;
            contents_so = ap (λ (n : ℕ). before_taken c.pop.new.self.items (slice_set held n c.take_over.new.self)) count
                ∙ is_taken c.args.self.now.shapes c.pop.new.self.items held c.in-Some.given old c.take_over.new.self c.args.lent.contents left.shapes_so fit lent is c.take_over.ensures.contents;
          };
    }

pub returns : goal.returns
returns c = λ fit.
    let none : c.loop-given.holdings.items ≡ [] = search rules in
    let left = c.loop-given.invariant.taken fit in
    ap (made (map shape_held c.loop-given.self-inside.holdings.items)) (ap (λ (left : List Holding). before_taken left c.loop-given.self-inside.holdings.items) (sym none) ∙ left.contents_so)
    ∙ ap (λ (shapes : List (List ℕ)). made shapes c.args.lent.contents) left.shapes_so

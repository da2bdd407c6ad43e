use Rattle.std.proofs.Common.{◌≡◌, false, rules, length, map, string_bytes, [], ◌∷◌, ap, sym, ◌∙◌}
use Rattle.std.specs.Prelude.{◌==◌}
use Rattle.sd_graph.specs.TreeFold.{named_container}
use Rattle.sd_lower.specs.Boards.{Board, plain_board}
use Rattle.sd_lower.proofs.States.{no-board, one-board}
use Rattle.sd_lower.proofs.plan.boards_at.Goals as goal

pub returns-then-is_empty : goal.returns-then-is_empty
returns-then-is_empty c = λ states loops.
    let none : length c.args.items.now ≡ 0 = search rules in
    let new : c.new.result.items ≡ [] = search rules in
    ap (map plain_board) new ∙ sym (no-board (map named_container c.args.containers.now.entries) (map string_bytes c.args.variables.now) states c.args.workers c.args.state c.args.items.now none)

pub returns : goal.returns
returns c = λ states loops.
    let some : (length c.args.items.now == 0) ≡ false = sym c.is_empty.ensures ∙ c.if-is_empty.false in
    let items : c.push.new.self.items ≡ c.in_ok-board.board ∷ [] = search rules in
    ap (map plain_board) items
    ∙ ap (λ (board : Board). board ∷ []) (c.in_ok-board.ensures states loops)
    ∙ sym (one-board (map named_container c.args.containers.now.entries) (map string_bytes c.args.variables.now) states c.args.workers c.args.state c.args.items.now some)

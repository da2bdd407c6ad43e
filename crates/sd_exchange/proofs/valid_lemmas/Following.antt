-- Runs that end alike, one after another.
use Rattle.std.proofs.Common.{[], ◌∷◌, refl, ◌∙◌}
use Rattle.sd_work.specs.Memory.{Contents, array, stream, Memory}
use Rattle.sd_work.specs.Run.{Left}
use Rattle.sd_confluence.specs.Alike.{AreContentsAlike, AreAlike, LeaveAlike}
use Rattle.sd_graph.specs.PlainTree.{GraphTree}
use Rattle.sd_alike.specs.alike.Rewritten.{RunsSame}
use Rattle.sd_exchange.specs.maps.RunsAlike.{RunsAlike}

itself : (memory : Memory) → AreAlike memory memory
itself [] = tt
itself (array width elements ∷ memory) = ((refl, refl), itself memory)
itself (stream width values ∷ memory) = ((refl, (λ value. refl)), itself memory)

leaves-itself : (left : Left) → LeaveAlike left left
leaves-itself left = record { memory = itself left.memory; turns = refl }

contents-follow : (a b c : Contents) → AreContentsAlike a b → AreContentsAlike b c → AreContentsAlike a c
contents-follow (array w a) (array u b) (array v c) one two = (one.0 ∙ two.0, one.1 ∙ two.1)
contents-follow (array w a) (array u b) (stream v c) one two = two
contents-follow (array w a) (stream u b) c one two = absurd one
contents-follow (stream w a) (array u b) c one two = absurd one
contents-follow (stream w a) (stream u b) (array v c) one two = two
contents-follow (stream w a) (stream u b) (stream v c) one two = (one.0 ∙ two.0, λ value. one.1 value ∙ two.1 value)

follows : (a b c : Memory) → AreAlike a b → AreAlike b c → AreAlike a c
follows [] [] c one two = two
follows [] (y ∷ b) c one two = absurd one
follows (x ∷ a) [] c one two = absurd one
follows (x ∷ a) (y ∷ b) [] one two = two
follows (x ∷ a) (y ∷ b) (z ∷ c) one two = (contents-follow x y z one.0 two.0, follows a b c one.1 two.1)

pub runs-follow : (tree between other : GraphTree) → RunsAlike tree between → RunsAlike between other → RunsAlike tree other
runs-follow tree between other one two memory turns left run =
    let first = one memory turns left run in
    let second = two memory turns first.0 first.1 in
    (second.0, second.1, record { memory = follows left.memory first.0.memory second.0.memory first.2.memory second.2.memory; turns = first.2.turns ∙ second.2.turns })

pub runs-same : (tree other : GraphTree) → RunsSame tree other → RunsAlike tree other
runs-same tree other same memory turns left run = (left, (same memory turns left).0 run, leaves-itself left)

pub runs-back : (tree other : GraphTree) → RunsSame tree other → RunsAlike other tree
runs-back tree other same memory turns left run = (left, (same memory turns left).1 run, leaves-itself left)

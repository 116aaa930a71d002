use Rattle.std.proofs.Common.{List, [], length, vec_items, ap, ◌∙◌, subst}
use Rattle.nets.specs.Calls.{PlainCall, column_after, plain_calls}
use Rattle.nets.specs.Following.{Follows}
use Rattle.nets.specs.Nets.{net_wires}
use Rattle.nets.proofs.Playing.{answers_end, column_end, calls_end, looks_up_played, in_turn_played}
use Rattle.nets.proofs.net.play.replay.Goals as goal

pub returns : goal.returns
returns g c =
    let L = g.L.Algebra in
    let n = c.loop-call.net in
    let column = c.loop-call.column in
    let long = length c.args.column.now in
    let calls = c.args.calls.now in
    let i = c.loop-call.call-index in
    let past = c.loop-call-test.false in
    let opened = c.in_ok-net.ensures.algebra in
    let same = c.loop-call.invariant.2 ∙ opened in
    let F : List PlainCall → Type 0 = λ cs. Follows L n column cs in
    let follows = subst F (calls_end long calls i past) c.loop-call.invariant.5 in
    record {
      answers = answers_end long calls i past (net_wires n) (vec_items c.loop-call.answers) _ c.loop-call.invariant.3;
      algebra = same;
      column =
          column_end long calls i past L c.in_ok-net.net.algebra (net_wires n) column _ c.loop-call.invariant.4
          ∙ ap (λ b. column_after L b [] c.args.column.now (plain_calls long calls)) opened;
      follows = follows;
      looking_up = looks_up_played L c.args.algebra n column long (plain_calls long calls) same c.loop-call.auto.column (g.met.L.Algebra.reads_grade n.algebra) follows;
      in_turn = in_turn_played L n column (plain_calls long calls) follows;
    }

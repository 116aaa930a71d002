use Rattle.std.proofs.Common.{length, sym, ◌∙◌, rules}
use Rattle.algebras.specs.contracts.counted.works.CountedAlgebra.TheImpl.{ghosts}
use Rattle.nets.specs.Nets.{net_wires}
use Rattle.nets.proofs.Placements.{unless_passed}
use Rattle.nets.proofs.Followed.{kept_long}
use Rattle.listing.proofs.Lines.{question_passes}
use Rattle.listing.proofs.text.Kept.write_line.Goals as goal

pub unwrap-told-requires : goal.unwrap-told-requires
unwrap-told-requires c =
    let n = c.args.self.now.net.now in
    let column = c.args.self.now.column.now in
    let long = kept_long ghosts n.algebra (net_wires n) column c.args.self.now.kept in
    let passes = question_passes (length (net_wires n)) (length column) c.args.wire c.requires long in
    let answer = c.tell.ensures.answer ∙ sym (unless_passed _ _ passes) in
    search rules

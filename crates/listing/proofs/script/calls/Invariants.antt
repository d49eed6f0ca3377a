use Rattle.std.proofs.Common.{◌≡◌, ◌+◌, length}
use Rattle.text.specs.Left.{left, given}
use Rattle.text.specs.Lines.{lines}
use Rattle.pack.specs.Shown.{state}
use Rattle.listing.specs.Listing.{call_lines}
use Rattle.listing.specs.Toward.{Toward}
use Rattle.listing.proofs.script.calls.Given as goal

abbrev pub invariant-loop-line : goal.invariant-loop-line
invariant-loop-line g l =
    let w = g.W.Wire in
    let out = call_lines (given l.reader + 1) (lines (left l.reader)) (state w.means l.pack) in
    let all = call_lines (given l.initial.reader + 1) (lines (left l.initial.reader)) (state w.means l.initial.pack) in
    Toward l.initial.writer l.writer out.0 all.0 × (out.1 ≡ all.1)

abbrev pub decreases-loop-line : goal.decreases-loop-line
decreases-loop-line g l = length (left l.reader)

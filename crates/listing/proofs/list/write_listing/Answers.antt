use Rattle.std.proofs.Common.{◌≡◌, ◌++◌, codes, ap, ◌∙◌, subst}
use Rattle.text.specs.Left.{left}
use Rattle.text.specs.Lines.{lines}
use Rattle.text.specs.Written.{Wrote}
use Rattle.text.proofs.Writes.{◌then◌}
use Rattle.pack.specs.Shown.{state, memory}
use Rattle.listing.specs.Listing.{Out, framed, from_line_1, listing, pack_after}
use Rattle.listing.specs.Printed.{Words, figures_line}
use Rattle.listing.proofs.list.write_listing.Goals as goal

pub returns : goal.returns
unfolding listing pack_after
returns g c =
    let w = g.W.Wire in
    let s = state w.means c.args.pack.now in
    let brought = memory c.args.pack.now in
    let out = from_line_1 brought (lines (left c.over-reader.result)) s in
    let whole = ap (λ z. from_line_1 brought (lines z) s) c.over-reader.ensures.left in
    let figures = ap figures_line (c.result.ensures ∙ ap (λ z. z.result) c.answers.ensures.pack) in
    let text : codes "line answer\n" ++ (out.0 ++ (codes "kept messages freed\n" ++ figures_line c.result.result)) ≡ framed (from_line_1 brought (lines c.args.input.now) s) =
    ap (λ f. codes "line answer\n" ++ (out.0 ++ (codes "kept messages freed\n" ++ f))) figures ∙ ap framed whole in
    record {
      text = subst (Wrote c.args.writer.now c.figures_line.new.writer) text
          (c.text.ensures then (c.answers.ensures.text then (c.text-2.ensures then c.figures_line.ensures.text)));
      pack = c.answers.ensures.pack ∙ ap (λ (o : Out). o.1) whole;
      words = subst Words c.result.ensures c.figures_line.ensures.words;
    }

use Rattle.rl_syntax.proofs.Common.{◌∙◌, ap}
use Rattle.std.specs.Prelude.{map}
use Rattle.rl_syntax.specs.Spans.{mapped_by_byte_spans}
use Rattle.rl_tokens.specs.Trees.{relocated, stream_view}
use Rattle.rl_syntax.specs.declared.span.Span.{Span}
use Rattle.rl_tokens.specs.declared.token.Group.{roll-Group}
use Rattle.rl_tokens.proofs.TreeLemmas.{relocated_parts}
use Rattle.rl_tokens.proofs.token.+map_by_byte_spans.Goals as goal

pub Group::map_by_byte_spans-returns : goal.Group::map_by_byte_spans-returns
Group::map_by_byte_spans-returns g t c =
    relocated_parts c.args.table.now c.args.self.now (roll-Group g.row.A.Denot
    (record { delimiter = c.set_span.new.self.delimiter; stream = c.map_by_byte_spans.new.self; span = c.set_span.new.self.span })) c.set_span.ensures.delimiter (c.set_span.ensures.span ∙ c.mapped_by_byte_spans.ensures ∙ ap (λ (s : Span). mapped_by_byte_spans c.args.table.now s) c.span-span.ensures) (c.map_by_byte_spans.ensures ∙ ap (λ s. map (relocated c.args.table.now) (stream_view s)) c.set_span.ensures.stream)

-- Word behind word.
use Rattle.stream_rules.specs.Stream.{closing, records_line}
use Rattle.put_text.proofs.PutLaws.{put_then}
use Rattle.report_stream.proofs.close.Goals as goal

pub returns-clause-put : goal.returns-clause-put
unfolding closing records_line
returns-clause-put c = put_then _ _ c.put_word-from.ensures.put (put_then _ _ c.put_bytes-behind.ensures (put_then _ _ c.put_number-end.ensures.put c.put_byte.ensures.put))

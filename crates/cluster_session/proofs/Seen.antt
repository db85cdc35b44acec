-- What is seen of a link over bytes in memory.
use Rattle.std.proofs.Common.{drop, Some}
use Rattle.resp_core.specs.Standing.{waiting, level_limit}
use Rattle.resp_link.specs.Call.{Seen}
use Rattle.resp_link.specs.Counts.{reader_counts, writer_counts}
use Rattle.resp_link.specs.Replies.{pushes_of}
use Rattle.resp_link.specs.States.{is_open, is_owing}
use Rattle.resp_link.specs.declared.byte_link.ByteLink.{ByteLink}
use Rattle.resp_link.specs.declared.memory_reader.MemoryReader.{MemoryReader}
use Rattle.resp_link.specs.declared.memory_writer.MemoryWriter.{MemoryWriter}

abbrev pub link_seen : ByteLink MemoryReader MemoryWriter → Seen
link_seen l = record {
  sent = Some l.writer.bytes.items;
  unread = Some (drop l.receiver.reader.at l.receiver.reader.bytes.items);
  held = waiting l.receiver.parser;
  pushes = pushes_of l.receiver;
  counts = reader_counts l.receiver.reader;
  write_counts = writer_counts l.writer;
  flushed = l.writer.flushed;
  usable = is_open l.state;
  owes = is_owing l.state;
  limit = level_limit l.receiver.parser;
}

-- The room that is kept for values and bytes. A count in the input is a server's word: no room is kept for
-- what it announces before that is there.
use Rattle.std.specs.Prelude.{ℕ}
use Rattle.std.specs.Vec.{vec_capacity}
use Rattle.resp_core.specs.declared.parser.frame.Frame.{Frame}
use Rattle.resp_core.specs.declared.parser.frame.Frame.TheVariants as frames
use Rattle.resp_core.specs.declared.parser.frame.Opened.{Opened}
use Rattle.resp_core.specs.declared.parser.frame.Opened.TheVariants as opened

-- for how many values, or pairs, a row has room
abbrev pub room_in : Frame → ℕ
room_in (frames.Array items n) = vec_capacity items
room_in (frames.Set items n) = vec_capacity items
room_in (frames.Map pairs key n) = vec_capacity pairs
room_in (frames.Attribute pairs key n) = vec_capacity pairs
room_in (frames.Naming n) = 0
room_in (frames.Push kind items n) = vec_capacity items

-- the same of a row at its beginning; a whole one has no values
abbrev pub room_at_opening : Opened → ℕ
room_at_opening (opened.Whole v) = 0
room_at_opening (opened.Open f) = room_in f

-- For bodies only: parts that are gathered while a chunk is parted.
use Rattle.std.specs.Prelude.{List, ◌++◌, map}
use Rattle.link_notices.specs.declared.stream_part.Output.{Output}
use Rattle.link_notices.specs.Parting.{Token, frame_octet, tokens_of}

-- what has been given so far
abbrev pub shown : Output → List Token
shown o = tokens_of o.parts.items ++ map frame_octet o.frames.items

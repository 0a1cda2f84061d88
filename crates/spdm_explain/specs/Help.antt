-- The names of the faults of lines, and a sentence of help for each. This project's own.
use Rattle.std.specs.Prelude.{ℕ, List, codes}
use Rattle.script_text.specs.declared.texts.faults.LineFault.{LineFault}
use Rattle.script_text.specs.declared.texts.faults.LineFault.TheVariants as fault

abbrev pub name_of : LineFault → List ℕ
name_of fault.LineTooLong = codes "LineTooLong"
name_of fault.Unknown = codes "Unknown"
name_of fault.Order = codes "Order"
name_of fault.Words = codes "Words"
name_of fault.Number = codes "Number"
name_of fault.Hex = codes "Hex"
name_of fault.Flags = codes "Flags"
name_of fault.TooMany = codes "TooMany"
name_of fault.Twice = codes "Twice"
name_of fault.SameEid = codes "SameEid"
name_of fault.SamePsk = codes "SamePsk"
name_of fault.Block = codes "Block"
name_of fault.NoSuchEnd = codes "NoSuchEnd"
name_of fault.Incomplete = codes "Incomplete"
name_of fault.TooManyEvents = codes "TooManyEvents"

abbrev pub help_of : LineFault → List ℕ
help_of fault.LineTooLong = codes "A line has at most 16,384 bytes, also where it is a comment."
help_of fault.Unknown = codes "The line begins with no word that a line of this text may begin with."
help_of fault.Order = codes "Lines of the configuration stand before `end`, and all others behind it."
help_of fault.Words = codes "The line has another count of words, or a word that may not stand there; words stand between single spaces."
help_of fault.Number = codes "A word is no decimal number without leading zeros, or is out of its range."
help_of fault.Hex = codes "A word is no pairs of hexadecimal digits and no hyphen, or has too few or too many bytes."
help_of fault.Flags = codes "Capabilities are a hyphen or letters of mhkc in this order, MAX above TRANSFER needs c, and algorithms have their own names."
help_of fault.TooMany = codes "A configuration has at most eight requesters."
help_of fault.Twice = codes "This was said before, and may be said once."
help_of fault.SameEid = codes "Another end has this end point."
help_of fault.SamePsk = codes "Another requester has this pre-shared key."
help_of fault.Block = codes "All blocks together have at most 4,054 bytes, seven for each and those of its value."
help_of fault.NoSuchEnd = codes "The requester is not configured, or not yet."
help_of fault.Incomplete = codes "A responder, a requester or a seed is missing at `end`, or the text ends too early."
help_of fault.TooManyEvents = codes "A text has at most 100,000 events or packets."

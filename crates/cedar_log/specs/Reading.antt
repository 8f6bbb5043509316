-- What a line asks: a request, or that of which a line of a log has the answer.
use Rattle.std.specs.Prelude.{◌≡◌, ⊤, Option, Some, None, codes}
use Rattle.json.specs.Json.{Json, document}
use Rattle.json.specs.Find.{get}
use Rattle.cedar_log.specs.Lines.{Text, json_text}
use Rattle.cedar_log.specs.declared.reading.Unread.{Unread}
use Rattle.cedar_log.specs.declared.reading.Unread.TheVariants as unreads

-- this, where there is an answer
abbrev pub answered : Option Json → Option Json → Option Json
answered None request = None
answered (Some answer) request = request

-- the request of a line of a log
abbrev pub logged_request : Option Json → Option Json
logged_request None = None
logged_request (Some j) = answered (get (codes "answer") j) (get (codes "request") j)

-- that as text, or else this text
abbrev pub text_or : Text → Option Json → Text
text_or line None = line
text_or line (Some request) = json_text request

-- what a line asks
abbrev pub asked_of : Text → Text
asked_of line = text_or line (logged_request (document line))

-- this text is asked, if there is one, or else the line itself
abbrev pub IsAsked : Text → Option Text → Type 0
IsAsked line None = asked_of line ≡ line
IsAsked line (Some t) = asked_of line ≡ t

-- ---- for private clauses

-- why a text was not read
abbrev pub IsUnread : Text → Unread → Type 0
IsUnread text unreads.Syntax = document text ≡ None
IsUnread text unreads.Memory = ⊤

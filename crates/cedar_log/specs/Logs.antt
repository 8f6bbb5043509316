-- What becomes of a service with a log by requests.
use Rattle.std.specs.Prelude.{◌≡◌, ◌||◌, Bool, true, false, ℕ, List, [], ◌∷◌, ◌++◌, Option}
use Rattle.std.specs.Io.KnownBytes.{Appends}
use Rattle.http.specs.declared.request.Request.{Request}
use Rattle.http_server.specs.declared.response.Response.{Response}
use Rattle.http_server.specs.Response.{IsResponse}
use Rattle.http_server.specs.Exchange.{Call, Chain}
use Rattle.cedar_log.specs.Lines.{Text}
use Rattle.cedar_log.specs.Exchanges.{hands_out, AreLines, AreUnread}
use Rattle.cedar_log.specs.declared.logged.Logged.{Logged}
use Rattle.cedar_log.specs.declared.logs.Log.{Log}

-- ---- a log

-- what has left the program for a log, where that is known
abbrev pub Known : Type 0
Known = Option Text

-- All of the text is appended, to a log of which nothing was lost; or a first part of it at most, none to one of which
-- something was lost, and from then on it is such a log.
pub data IsAppended {L : Type 0} (contents : L → Known) (text : Text) (before after : Log L) : Bool → Type 0 where
  whole : before.is_broken ≡ false → after.is_broken ≡ false → Appends (contents before.sink) (contents after.sink) text
      → IsAppended contents text before after true
  broken : (some rest : Text) → text ≡ some ++ rest → (before.is_broken ≡ true → some ≡ []) → after.is_broken ≡ true
      → Appends (contents before.sink) (contents after.sink) some → IsAppended contents text before after false

-- ---- one request

-- 500 is sent, and nothing else
abbrev pub IsWithheld : Response → Type 0
IsWithheld = IsResponse 500 [] []

-- What is sent in place of what is due, and whether memory ran out. What is due is sent where nothing is told of it, or
-- once its lines are appended. Else it is withheld: its lines could not be appended whole, or it has none, since one of
-- the two bodies is no JSON, or memory ran out before they were made.
pub data IsHandedOut {L : Type 0} (contents : L → Known) (q : Request (List ℕ)) (due p : Response) (before after : Log L)
    : Bool → Type 0 where
  nothing_told : hands_out q due ≡ false → p ≡ due → after ≡ before → IsHandedOut contents q due p before after false
  told : (lines : Text) → hands_out q due ≡ true → AreLines q due lines → IsAppended contents lines before after true
      → p ≡ due → IsHandedOut contents q due p before after false
  unwritten : (lines : Text) → hands_out q due ≡ true → AreLines q due lines
      → IsAppended contents lines before after false → IsWithheld p → IsHandedOut contents q due p before after false
  unread : hands_out q due ≡ true → AreUnread q due → after ≡ before → IsWithheld p
      → IsHandedOut contents q due p before after false
  no_memory : hands_out q due ≡ true → after ≡ before → IsWithheld p → IsHandedOut contents q due p before after true

-- the service behind the log answers as it does without, and that is handed out, or withheld; that memory ran out is noted
pub record IsLogged {S L : Type 0} (answers : S → Request (List ℕ) → Response → S → Type 0) (contents : L → Known)
    (q : Request (List ℕ)) (p : Response) (before after : Logged S L) : Type 0 where
  pub due : Response
  pub answered : answers before.service q due after.service
  pub lacks_memory : Bool
  pub handed_out : IsHandedOut contents q due p before.log after.log lacks_memory
  pub noted : after.lacked_memory ≡ (before.lacked_memory || lacks_memory)

-- ---- one after another

-- These calls were due where something was lost of the log, and those were sent: of each that hands out a decision 500.
pub data AreWithheld : List Call → List Call → Type 0 where
  none_left : AreWithheld [] []
  none_told : {c : Call} {due sent : List Call} → hands_out c.0 c.1 ≡ false → AreWithheld due sent
      → AreWithheld (c ∷ due) (c ∷ sent)
  withheld_next : {q : Request (List ℕ)} {p no : Response} {due sent : List Call} → hands_out q p ≡ true → IsWithheld no
      → AreWithheld due sent → AreWithheld ((q, p) ∷ due) ((q, no) ∷ sent)

-- These calls were due where nothing was lost of the log, and those were sent; then the log has these lines more, and
-- after them this first part of others. The lines are of those which were handed out and are told, in order. At the first
-- whose own lines could not be appended whole the log has a first part of those; without one it has nothing but the
-- lines. Where memory ran out before lines were made, `NoMemory` holds.
pub data AreHandedOut (NoMemory : Type 0) : List Call → List Call → Text → Text → Type 0 where
  no_call : AreHandedOut NoMemory [] [] [] []
  not_told : {c : Call} {due sent : List Call} {more some : Text} → hands_out c.0 c.1 ≡ false
      → AreHandedOut NoMemory due sent more some → AreHandedOut NoMemory (c ∷ due) (c ∷ sent) more some
  told_first : {c : Call} {due sent : List Call} {lines more some : Text} → hands_out c.0 c.1 ≡ true
      → AreLines c.0 c.1 lines → AreHandedOut NoMemory due sent more some
      → AreHandedOut NoMemory (c ∷ due) (c ∷ sent) (lines ++ more) some
  unwritten_first : {q : Request (List ℕ)} {p no : Response} {due sent : List Call} {some : Text} (rest : Text)
      → hands_out q p ≡ true → AreLines q p (some ++ rest) → IsWithheld no → AreWithheld due sent
      → AreHandedOut NoMemory ((q, p) ∷ due) ((q, no) ∷ sent) [] some
  unread_first : {q : Request (List ℕ)} {p no : Response} {due sent : List Call} {more some : Text}
      → hands_out q p ≡ true → AreUnread q p → IsWithheld no → AreHandedOut NoMemory due sent more some
      → AreHandedOut NoMemory ((q, p) ∷ due) ((q, no) ∷ sent) more some
  no_memory_first : {q : Request (List ℕ)} {p no : Response} {due sent : List Call} {more some : Text}
      → hands_out q p ≡ true → NoMemory → IsWithheld no → AreHandedOut NoMemory due sent more some
      → AreHandedOut NoMemory ((q, p) ∷ due) ((q, no) ∷ sent) more some

-- The service behind the log answers as it does without, and each answer is handed out, or withheld. After what the log
-- had stand the lines of those that were handed out, in their order; and then nothing, or, where lines could not be
-- appended whole, at most a first part of those. To a log of which something was lost nothing more is appended.
pub record AreLogged {S L : Type 0} (answers : S → Request (List ℕ) → Response → S → Type 0) (contents : L → Known)
    (before : Logged S L) (calls : List Call) (after : Logged S L) : Type 0 where
  pub due : List Call
  pub answered : Chain answers before.service due after.service
  pub lines : Text
  pub some : Text
  pub handed_out : before.log.is_broken ≡ false → AreHandedOut (after.lacked_memory ≡ true) due calls lines some
  pub withheld : before.log.is_broken ≡ true → AreWithheld due calls
  pub appended : Appends (contents before.log.sink) (contents after.log.sink) (lines ++ some)
  pub all_whole : after.log.is_broken ≡ false → some ≡ []
  pub lost : before.log.is_broken ≡ true → (lines ++ some ≡ []) × (after.log.is_broken ≡ true)
  pub noted : before.lacked_memory ≡ true → after.lacked_memory ≡ true

-- ---- for private clauses

-- what is due stays, or it is withheld
abbrev pub IsKeptOr : Bool → Response → Response → Type 0
IsKeptOr true due p = p ≡ due
IsKeptOr false due p = IsWithheld p

-- the lines are appended and what is due stays, or it is withheld
abbrev pub TellsOrWithholds : {L : Type 0} → (L → Known) → Text → Response → Response → Log L → Log L → Type 0
TellsOrWithholds contents lines due p before after =
    (whole : Bool) × IsAppended contents lines before after whole × IsKeptOr whole due p

-- Cedar's own requests, a line each, with a log.
use Rattle.std.specs.Prelude.{◌≡◌, ◌⊎◌, Bool, true, false, List, [], ◌∷◌, ◌++◌, Some, None, codes, string_bytes}
use Rattle.std.specs.Io.KnownBytes.{Appends, Keeps, IsAtEnd}
use Rattle.cedar_writes.specs.Parts.{AppendsPart}
use Rattle.cedar_endpoints.specs.declared.answers.Status.{Status}
use Rattle.cedar_endpoints.specs.declared.answers.Status.TheVariants as statuses
use Rattle.cedar_endpoints.specs.declared.replies.Reply.{Reply}
use Rattle.cedar_endpoints.specs.Asked.{Text}
use Rattle.cedar_endpoints.specs.Lines.{Known, TakesLine}
use Rattle.cedar_endpoints.specs.Served.{IsAuthorized}
use Rattle.cedar_endpoints.specs.Several.{Decides}
use Rattle.cedar_log.specs.Lines.{stamp_text}
use Rattle.cedar_log.specs.Exchanges.{AreLinesOf}
use Rattle.cedar_logged_lines.specs.declared.answers.Answer as answers

-- what a log is told of a reply of this status: its line, where it is a decision, and else nothing
abbrev pub IsToldBy : Status → Text → Text → Text → Text → Type 0
IsToldBy statuses.Ok version line body told =
    AreLinesOf (stamp_text (Some version) None) (codes "/v1/authorize") line body told
IsToldBy statuses.BadRequest version line body told = told ≡ []
IsToldBy statuses.NotFound version line body told = told ≡ []
IsToldBy statuses.TooLarge version line body told = told ≡ []
IsToldBy statuses.PostOnly version line body told = told ≡ []
IsToldBy statuses.GetOnly version line body told = told ≡ []
IsToldBy statuses.PutOnly version line body told = told ≡ []

-- the reply to the line, on a line, and what the log is told of it
pub record IsAnswerTo (authorizes : Decides Text) (version line answer told : Text) : Type 0 where
  pub reply : Reply
  pub is_due : IsAuthorized authorizes line reply
  pub answer_is : answer ≡ string_bytes reply.body ++ codes "\n"
  pub told_is : IsToldBy reply.status version line (string_bytes reply.body) told

-- lines are taken one after another; what is told of each is appended to the log, and its answer is written
pub data AreLinesLogged (authorizes : Decides Text) (version : Text) (reader writer log : Known)
    : List Text → List Text → Text → Known → Known → Known → Type 0 where
  no_line : AreLinesLogged authorizes version reader writer log [] [] [] reader writer log
  one_more : {lines answers : List Text} {s t v w k m : Known} {line answer told more : Text}
      → AreLinesLogged authorizes version reader writer log lines answers told s v k → TakesLine s t line
      → IsAnswerTo authorizes version line answer more → Appends k m more → Appends v w answer
      → AreLinesLogged authorizes version reader writer log (lines ++ line ∷ []) (answers ++ answer ∷ []) (told ++ more)
      t w m

-- so it is with all lines up to the end, and nothing else is written
pub record AreAllLogged (authorizes : Decides Text) (version : Text) (reader writer last log log_last : Known) : Type 0 where
  pub lines : List Text
  pub answers : List Text
  pub told : Text
  pub at_end : Known
  pub held : Known
  pub logged : AreLinesLogged authorizes version reader writer log lines answers told at_end held log_last
  pub is_end : IsAtEnd at_end
  pub kept : Keeps held last

-- What is told is not appended whole, but at most a first part of it, and nothing of the answer is written; or it is, and
-- at most a first part of the answer is written.
pub data IsHandedInPart (told answer : Text) (log log_last writer last : Known) : Type 0 where
  told_in_part : AppendsPart log log_last told → Keeps writer last → IsHandedInPart told answer log log_last writer last
  answered_in_part : Appends log log_last told → AppendsPart writer last answer
      → IsHandedInPart told answer log log_last writer last

-- of the next line nothing is told and nothing of its answer written, or a part of that
pub data IsCutShort (authorizes : Decides Text) (version : Text) (reader writer last log log_last : Known) : Type 0 where
  nothing_more : Keeps writer last → log_last ≡ log → IsCutShort authorizes version reader writer last log log_last
  handed_in_part : {t : Known} {line answer told : Text} → TakesLine reader t line
      → IsAnswerTo authorizes version line answer told → IsHandedInPart told answer log log_last writer last
      → IsCutShort authorizes version reader writer last log log_last

-- so it is with the lines up to some line, and of the next one a part at most is told and answered
pub record AreSomeLogged (authorizes : Decides Text) (version : Text) (reader writer last log log_last : Known) : Type 0 where
  pub lines : List Text
  pub answers : List Text
  pub told : Text
  pub left : Known
  pub held : Known
  pub kept : Known
  pub logged : AreLinesLogged authorizes version reader writer log lines answers told left held kept
  pub cut : IsCutShort authorizes version left held last kept log_last

-- ---- for private clauses

-- one line is taken, told and answered; or it is the end, and nothing is written
abbrev pub IsLoggedStep : Decides Text → Text → Known → Known → Known → Bool → Known → Known → Known → Type 0
IsLoggedStep authorizes version r w k true s v m =
    (line : Text) × (answer : Text) × (told : Text) × TakesLine r s line
    × IsAnswerTo authorizes version line answer told × Appends k m told × Appends w v answer
IsLoggedStep authorizes version r w k false s v m = IsAtEnd r × Keeps w v × (m ≡ k)

-- what is told of the line is appended, and its answer is written
abbrev pub WritesAnswer : Decides Text → Text → Text → Known → Known → Known → Known → Type 0
WritesAnswer authorizes version line k m w v =
    (answer : Text) × (told : Text) × IsAnswerTo authorizes version line answer told × Appends k m told
    × Appends w v answer

-- the two texts of an answer
abbrev pub IsTextOf : Decides Text → Text → Text → answers.Answer → Type 0
IsTextOf authorizes version line a =
    IsAnswerTo authorizes version line (string_bytes a.answer) (string_bytes a.told)

-- nothing is told and nothing is written, or a part of what is due
abbrev pub WritesPart : Decides Text → Text → Text → Known → Known → Known → Known → Type 0
WritesPart authorizes version line k m w v =
    (Keeps w v × (m ≡ k)) ⊎ ((answer : Text) × (told : Text) × IsAnswerTo authorizes version line answer told
    × IsHandedInPart told answer k m w v)

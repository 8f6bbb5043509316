-- What is replied: a status, and a JSON text.
use Rattle.std.specs.Prelude.{◌≡◌, Bool, true, false, ◌++◌, codes, string_bytes}
use Rattle.cedar_endpoints.specs.declared.answers.Status.{Status}
use Rattle.cedar_endpoints.specs.declared.answers.Status.TheVariants as statuses
use Rattle.cedar_endpoints.specs.declared.replies.Outcome.{Outcome}
use Rattle.cedar_endpoints.specs.declared.replies.Outcome.TheVariants as outcomes
use Rattle.cedar_endpoints.specs.declared.replies.Reply.{Reply}
use Rattle.cedar_endpoints.specs.Asked.{Text, Fault}

-- ---- texts

abbrev pub opening : Bool → Text
opening true = codes "{\"decision\":true,\"context\":"
opening false = codes "{\"decision\":false,\"context\":"

-- the decision, and behind it what it is due to, which is JSON
abbrev pub decision_text : Bool → Text → Text
decision_text b context = opening b ++ (context ++ codes "}")

-- where something is wrong in a document, and why
abbrev pub fault_json : Fault → Text
fault_json f =
    codes "{\"path\":\"$" ++ (f.part ++ (f.member ++ (codes "\",\"reason\":\"" ++ (f.reason ++ codes "\"}"))))

-- an error, which is JSON, and no decision
abbrev pub error_text : Text → Text
error_text error = codes "{\"error\":" ++ (error ++ codes "}")

-- ---- replies

-- the reply is of this status, and is this text
pub record Replies (s : Status) (text : Text) (r : Reply) : Type 0 where
  pub status : r.status ≡ s
  pub body : string_bytes r.body ≡ text

-- of this status, that this is wrong, and no decision
abbrev pub IsFault : Status → Fault → Reply → Type 0
IsFault s f = Replies s (error_text (fault_json f))

-- a decision with 200, or why there is none with 400; with 413 where the request brings more than it may
abbrev pub IsOutcome : Outcome → Reply → Type 0
IsOutcome (outcomes.Decided b context) = Replies statuses.Ok (decision_text b (string_bytes context))
IsOutcome (outcomes.Refused error) = Replies statuses.BadRequest (error_text (string_bytes error))
IsOutcome (outcomes.TooLarge error) = Replies statuses.TooLarge (error_text (string_bytes error))

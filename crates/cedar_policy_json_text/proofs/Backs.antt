-- Texts that are read again.
use Rattle.std.proofs.Common.{◌≡◌, ℕ, Bool, true, false, None, sym}
use Rattle.cedar_model.specs.Terms.{Text}
use Rattle.cedar_functions.specs.Functions.{Knowledge}
use Rattle.cedar_text_parser.specs.declared.policies.ParsedPolicies.{ParsedPolicies}
use Rattle.cedar_text_parser.specs.PolicyReading.{AreAllRead}
use Rattle.cedar_policy_json_reader.specs.JsonTexts.{depth_for, Says}
use Rattle.cedar_policy_set_reader.specs.PolicySets.{PolicySetView, policy_set_said}
use Rattle.cedar_policy_json_text.specs.declared.errors.PolicyTextError.{PolicyTextError}
use Rattle.cedar_policy_json_text.specs.declared.errors.PolicyTextError.TheVariants as errors
use Rattle.cedar_policy_json_text.specs.Kept.{are_all_kept, parsed_view, ReadsBack, ReadsBackIf, IsTextOf, IsOwn, IsOfText, IsSharedIn, IsUntold}
use Rattle.cedar_policy_json_text.specs.Names.{first_shared, IsShared}

-- what is read is compared
pub backs_if : (k : Knowledge) (limit : ℕ) (s : PolicySetView) (text : Text) (parsed : ParsedPolicies) (b : Bool)
    → AreAllRead k text limit parsed → b ≡ are_all_kept s (parsed_view parsed) → ReadsBackIf k limit s text b
backs_if k limit s text parsed true read h = record { parsed = parsed; read = read; kept = sym h }
backs_if k limit s text parsed false read h = tt

pub text_said : (k : Knowledge) (limit : ℕ) (json text : Text) (s : PolicySetView) → Says (depth_for limit) json (policy_set_said k limit) s → first_shared s ≡ None → ReadsBack k limit s text → IsTextOf k limit json text
text_said k limit json text s said apart back = record { set = s; said = said; apart = apart; back = back }

pub own_untold : (k : Knowledge) (limit : ℕ) (json : Text) (s : PolicySetView) (e : PolicyTextError) → Says (depth_for limit) json (policy_set_said k limit) s → IsShared s e → IsOwn e → IsUntold k limit json e
own_untold k limit json s (errors.Unread error) said shared h = absurd h
own_untold k limit json s (errors.NoText id) said shared h = tt
own_untold k limit json s (errors.AnotherName path id name) said shared h = tt
own_untold k limit json s (errors.SharedName path id name) said shared h = record { set = s; said = said; shared = shared }
own_untold k limit json s (errors.Memory error) said shared h = tt

-- what is of the text alone is no matter of the JSON, and no name is another's too
pub text_own : (e : PolicyTextError) → IsOfText e → IsOwn e
text_own (errors.Unread error) h = absurd h
text_own (errors.NoText id) h = tt
text_own (errors.AnotherName path id name) h = tt
text_own (errors.SharedName path id name) h = absurd h
text_own (errors.Memory error) h = tt

pub text_shared : (s : PolicySetView) (e : PolicyTextError) → IsOfText e → IsShared s e
text_shared s (errors.Unread error) h = absurd h
text_shared s (errors.NoText id) h = tt
text_shared s (errors.AnotherName path id name) h = tt
text_shared s (errors.SharedName path id name) h = absurd h
text_shared s (errors.Memory error) h = tt

pub ruleset backs = (backs_if, text_said, own_untold, text_own, text_shared)

-- What a search is replied.
use Rattle.std.specs.Prelude.{◌++◌, ℕ, Option, Some, None, Ok, Err, map, codes, string_bytes}
use Rattle.json.specs.Json.{Json}
use Rattle.cedar_endpoints.specs.declared.answers.Status.TheVariants as statuses
use Rattle.cedar_endpoints.specs.declared.replies.Finding.{Finding}
use Rattle.cedar_endpoints.specs.declared.replies.Finding.TheVariants as findings
use Rattle.cedar_endpoints.specs.declared.replies.Reply.{Reply}
use Rattle.cedar_endpoints.specs.declared.searches.Sought.{Sought}
use Rattle.cedar_endpoints.specs.Asked.{Text, Fault, Said}
use Rattle.cedar_endpoints.specs.Replies.{Replies, IsFault, error_text}
use Rattle.cedar_endpoints.specs.Searches.{Search, PageSearch, search_said}
use Rattle.cedar_endpoints.specs.Several.{joined}
use Rattle.cedar_endpoints.specs.Tokens.{IsPlace, next_text}

-- what may be found for a search, behind so many candidates and at most so many
abbrev pub Finds : Type 1
Finds = Search → ℕ → ℕ → Finding → Type 0

-- what searches find: the pages, of which version, among how many candidates, and how many a page has at most
pub record Finder : Type 1 where
  pub finds : Finds
  pub version : Text
  pub count : ℕ
  pub page : ℕ

abbrev pub finder_of : Finds → Text → ℕ → ℕ → Finder
finder_of finds version count page = record { finds = finds; version = version; count = count; page = page }

-- ---- what is replied

-- what is found, and the token of the next page
abbrev pub results_text : Text → Text → Text
results_text items token =
    codes "{\"results\":[" ++ (items ++ (codes "],\"page\":{\"next_token\":\"" ++ (token ++ codes "\"}}")))

-- what is found with 200, or why nothing is with 400
abbrev pub IsListed : Text → Finding → Reply → Type 0
IsListed version (findings.Found results next) =
    Replies statuses.Ok (results_text (joined (map string_bytes results.items)) (next_text version next))
IsListed version (findings.Refused error) = Replies statuses.BadRequest (error_text (string_bytes error))

-- the page behind so many candidates
abbrev pub IsPageFrom : Finder → Search → ℕ → Reply → Type 0
IsPageFrom s q after r = (f : Finding) × s.finds q after s.page f × IsListed s.version f r

abbrev pub no_token : Fault
no_token = record { part = codes ".page"; member = codes ".token"; reason = codes "not a token of this version" }

-- the page that the token names, which is at this place
abbrev pub IsPageAt : Finder → Search → Option ℕ → Reply → Type 0
IsPageAt s q None r = IsFault statuses.BadRequest no_token r
IsPageAt s q (Some n) r = IsPageFrom s q n r

-- the page that the token names; the first one, where there is none
abbrev pub IsPageOf : Finder → Search → Option Text → Reply → Type 0
IsPageOf s q None r = IsPageFrom s q 0 r
IsPageOf s q (Some t) r = (place : Option ℕ) × IsPlace s.version s.count t place × IsPageAt s q place r

-- the page that is asked for; or 400 for what is wrong
abbrev pub IsFound : Finder → Said PageSearch → Reply → Type 0
IsFound s (Err f) r = IsFault statuses.BadRequest f r
IsFound s (Ok a) r = IsPageOf s a.search a.token r

-- the document's search is answered, if it says one
abbrev pub IsSearched : Finder → Sought → Json → Reply → Type 0
IsSearched s sought j r = IsFound s (search_said sought j) r

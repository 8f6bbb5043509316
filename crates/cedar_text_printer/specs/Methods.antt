-- The functions of Cedar's extensions that are called as methods.
use Rattle.std.specs.Prelude.{Bool, ◌||◌, bytes_eq, codes}
use Rattle.cedar_model.specs.Terms.{Text}

-- of decimals
abbrev pub is_decimal_method : Text → Bool
is_decimal_method f =
    bytes_eq f (codes "lessThan") || (bytes_eq f (codes "lessThanOrEqual")
    || (bytes_eq f (codes "greaterThan") || bytes_eq f (codes "greaterThanOrEqual")))

-- of addresses
abbrev pub is_address_method : Text → Bool
is_address_method f =
    bytes_eq f (codes "isIpv4") || (bytes_eq f (codes "isIpv6") || (bytes_eq f (codes "isLoopback")
    || (bytes_eq f (codes "isMulticast") || bytes_eq f (codes "isInRange"))))

-- of points in time
abbrev pub is_time_method : Text → Bool
is_time_method f =
    bytes_eq f (codes "offset") || (bytes_eq f (codes "durationSince") || (bytes_eq f (codes "toDate")
    || bytes_eq f (codes "toTime")))

-- of spans of time
abbrev pub is_duration_method : Text → Bool
is_duration_method f =
    bytes_eq f (codes "toMilliseconds") || (bytes_eq f (codes "toSeconds") || (bytes_eq f (codes "toMinutes")
    || (bytes_eq f (codes "toHours") || bytes_eq f (codes "toDays"))))

unfoldable pub is_method : Text → Bool
is_method f = is_decimal_method f || (is_address_method f || (is_time_method f || is_duration_method f))

-- What is told of a text that can't be read.
use Rattle.std.specs.Prelude.{◌++◌, ℕ, ◌==◌, List, length, min, codes, decimal, Option, None, Some, if◌then◌else◌}
use Rattle.std.specs.Rc.{rc_str_bytes}
use Rattle.std.specs.declared.alloc.Global.{Global}
use Rattle.std.specs.declared.rc.RcStr.{RcStr}
use Rattle.cedar_text_lexer.specs.Messages.{message_of as read_message, error_text as read_text, told_of, at_byte}
use Rattle.cedar_text_lexer.specs.Positions.{headline_of, position_of}
use Rattle.cedar_names.specs.declared.names.CallStyle.{CallStyle}
use Rattle.cedar_names.specs.declared.names.CallStyle.TheVariants.{FunctionStyle, MethodStyle}
use Rattle.cedar_text_parser.specs.declared.errors.ParseError.{ParseError}
use Rattle.cedar_text_parser.specs.declared.errors.ParseError.TheVariants as error

-- what is called in this style
abbrev pub style_name : CallStyle → List ℕ
style_name FunctionStyle = codes "function"
style_name MethodStyle = codes "method"

-- what is called in the other style
abbrev pub other_name : CallStyle → List ℕ
other_name FunctionStyle = codes "method"
other_name MethodStyle = codes "function"

-- what so many are
abbrev pub arguments_name : ℕ → List ℕ
arguments_name n = if n == 1 then codes "argument" else codes "arguments"

abbrev pub are : ℕ → List ℕ
are n = if n == 1 then codes "is" else codes "are"

-- there is no function of this name, and another may have been meant
abbrev pub meant_message : List ℕ → CallStyle → List ℕ → List ℕ
meant_message f style near =
    codes "`" ++ (f ++ (codes "` is not a valid " ++ (style_name style
    ++ (codes "; did you mean `" ++ (near ++ codes "`?")))))

-- there is no function of this name, and perhaps another may have been meant
abbrev pub unknown_message : List ℕ → CallStyle → Option (RcStr Global) → List ℕ
unknown_message f style None = codes "`" ++ (f ++ (codes "` is not a valid " ++ style_name style))
unknown_message f style (Some near) = meant_message f style (rc_str_bytes near)

-- the function of this name is called in this style
abbrev pub style_message : List ℕ → CallStyle → List ℕ
style_message f style =
    codes "`" ++ (f ++ (codes "` is a " ++ (style_name style ++ (codes ", not a " ++ other_name style))))

-- the function of this name takes m arguments, and n are given
abbrev pub number_message : List ℕ → ℕ → ℕ → List ℕ
number_message f m n =
    codes "`" ++ (f ++ (codes "` takes " ++ (decimal m ++ (codes " " ++ (arguments_name m
    ++ (codes ", but " ++ (decimal n ++ (codes " " ++ (are n ++ codes " given")))))))))

-- why a text can't be read, without the place
abbrev pub message_of : List ℕ → ParseError → List ℕ
message_of text (error.Read r) = read_message text r
message_of text (error.UnknownFunction f style near s e) = unknown_message (rc_str_bytes f) style near
message_of text (error.WrongStyle f style s e) = style_message (rc_str_bytes f) style
message_of text (error.WrongNumberOfArguments f m n s e) = number_message (rc_str_bytes f) m n

-- what is told without the text: the byte, and why
abbrev pub error_text : ParseError → List ℕ
error_text (error.Read r) = read_text r
error_text (error.UnknownFunction f style near s e) = at_byte s (unknown_message (rc_str_bytes f) style near)
error_text (error.WrongStyle f style s e) = at_byte s (style_message (rc_str_bytes f) style)
error_text (error.WrongNumberOfArguments f m n s e) = at_byte s (number_message (rc_str_bytes f) m n)

-- what is told at a place of the text, before the line itself
abbrev pub told_at : List ℕ → ℕ → List ℕ → List ℕ
told_at text start why = headline_of (position_of text (min start (length text))) why

-- what is told of an error, before the line itself
abbrev pub told : List ℕ → ParseError → List ℕ
told text (error.Read r) = told_of text r
told text (error.UnknownFunction f style near s e) = told_at text s (unknown_message (rc_str_bytes f) style near)
told text (error.WrongStyle f style s e) = told_at text s (style_message (rc_str_bytes f) style)
told text (error.WrongNumberOfArguments f m n s e) = told_at text s (number_message (rc_str_bytes f) m n)

-- What texts say: their tokens, the grammar, and what is read of them.
pub use Rattle.cedar_text_lexer.specs.Tokens
pub use Rattle.cedar_text_lexer.specs.Names as TokenNames
pub use Rattle.cedar_text_lexer.specs.Lexicon
pub use Rattle.cedar_text_lexer.specs.Values
pub use Rattle.cedar_text_lexer.specs.Positions
pub use Rattle.cedar_text_syntax.specs.Grammar
pub use Rattle.cedar_text_syntax.specs.Trees
pub use Rattle.cedar_text_syntax.specs.PolicyGrammar as PolicyGrammar
pub use Rattle.cedar_functions.specs.Functions as KnownFunctions
pub use Rattle.cedar_functions.specs.Distance
pub use Rattle.cedar_text_parser.specs.Building
pub use Rattle.cedar_text_parser.specs.Calls
pub use Rattle.cedar_text_parser.specs.Heights
pub use Rattle.cedar_text_parser.specs.Messages
pub use Rattle.cedar_text_parser.specs.Paths
pub use Rattle.cedar_text_parser.specs.Reading
pub use Rattle.cedar_text_parser.specs.TermCalls
pub use Rattle.cedar_text_parser.specs.PolicyReading as PolicyReading
pub use Rattle.cedar_text_parser.specs.PolicyHeights as PolicyHeights
pub use Rattle.cedar_text_parser.specs.PolicyTermCalls as PolicyTermCalls

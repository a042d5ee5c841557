-- Executable models of private code: the tokens of a source that aren't lexemes, at the start of a text. Only proofs
-- use them.
use Rattle.std.specs.Prelude.{ℕ, Bool, not, ◌==◌, ◌||◌, ◌&&◌, List, [], ◌∷◌, drop, cond, codes, if◌then◌else◌}
use Rattle.std.proofs.Common.{Option, Some, None}
use Rattle.std.specs.Option.{option_map, option_and_then}
use Prim.Native.Char.{code}
use Rattle.rl_syntax.specs.Texts.{first_passes, begins, is_start, is_continue, begins_char}
use Rattle.rl_lexer.specs.declared.lex_error.LexKind.{LexKind}
use Rattle.rl_lexer.specs.declared.lex_error.LexKind.TheVariants.{UnclosedComment, UnclosedQuote}
use Rattle.rl_syntax.specs.Trivia.{is_comment_line, is_comment_block}
use Rattle.rl_lexer.specs.Lexemes.{begins_raw_identifier}
use Rattle.std.specs.Char.{is_ascii_digit}
use Rattle.rl_lexer.specs.Lexemes.{LiteralForm}
use Rattle.rl_lexer.specs.Mirrors.LexemeAt.{begins_quote, after_suffix}
use Rattle.rl_syntax.specs.Classes.{after_run}
use Rattle.rl_lexer.specs.Mirrors.SkippedAt.{after_block}
use Rattle.rl_lexer.specs.Sources.{is_in_line, is_apostrophe, SourceKind, PlainKind, RawIdentifierKind, LifetimeKind, DocCommentKind, StrayKind}

-- The text after a doc comment, where the given text follows the first slash. The result is `None` if the slash doesn't
-- begin a doc comment, and if a block comment isn't closed.
abbrev pub after_doc : List ℕ → Option (List ℕ)
after_doc [] = None
after_doc (c ∷ t) =
    cond (c == code "/") (cond (is_comment_line t) None (Some (after_run is_in_line t)))
    (cond (c == code "*") (cond (is_comment_block t) None (after_block 0 t)) None)

-- The text after the identifier at the start of a text, or `None` if the text doesn't begin with an identifier.
abbrev pub after_name : List ℕ → Option (List ℕ)
after_name [] = None
after_name (c ∷ t) = cond (is_start c) (Some (after_run is_continue t)) None

-- The text after `#` and an identifier at the start of a text, or `None` if the text doesn't begin with `#` and an
-- identifier.
abbrev pub after_marked : List ℕ → Option (List ℕ)
after_marked [] = None
after_marked (c ∷ t) = cond (c == code "#") (after_name t) None

-- The text after the identifier or raw identifier at the start of a text, or `None` if the text begins with neither.
abbrev pub after_any_name : List ℕ → Option (List ℕ)
after_any_name t = cond (begins_raw_identifier t) (after_name (drop 2 t)) (after_name t)

-- The text `r` itself, or `None` if `r` begins with an apostrophe.
abbrev pub unless_quoted : List ℕ → Option (List ℕ)
unless_quoted r = cond (first_passes is_apostrophe r) None (Some r)

-- The text after a lifetime, where the given text follows the lifetime's apostrophe. The result is `None` if the
-- apostrophe doesn't begin a lifetime.
abbrev pub after_lifetime : List ℕ → Option (List ℕ)
after_lifetime t = option_and_then unless_quoted (after_any_name t)

abbrev pub of_kind : SourceKind → Option (List ℕ) → Option (SourceKind × List ℕ)
of_kind kind rest = option_map (λ r. (kind, r)) rest

abbrev pub other_at : List ℕ → Option (SourceKind × List ℕ)
other_at [] = None
other_at (c ∷ t) =
    cond (c == code "/") (of_kind DocCommentKind (after_doc t))
    (cond (c == code "'") (of_kind LifetimeKind (after_lifetime t))
    (cond (c == code "r") (of_kind RawIdentifierKind (after_marked t)) None))

abbrev pub source_error_kind : List ℕ → LexKind
source_error_kind r = if begins (codes "/*") r then UnclosedComment else UnclosedQuote

abbrev pub opens : List ℕ → Bool
opens r = begins (codes "/*") r || (begins_quote r || begins_char (code "'") r)

-- Whether a character shows that an invalid quoted literal has no end: it is a slash, or an LF without an apostrophe right after
-- it.
abbrev pub stops_quote : ℕ → List ℕ → Bool
stops_quote c t = c == code "/" || (c == code "\n" && not (begins_char (code "'") t))

-- The text after the first character of a text, or `None` if the text is empty.
abbrev pub after_any : List ℕ → Option (List ℕ)
after_any [] = None
after_any (c ∷ t) = Some t

-- The text after one part of an invalid quoted literal, where `c` is the first character of the part and the text `t`
-- follows `c`. A part is a backslash and the next character, or one other character. The result is `None` if the
-- literal has no end.
abbrev pub after_part : ℕ → List ℕ → Option (List ℕ)
after_part c t = cond (c == code "\\") (after_any t) (cond (stops_quote c t) None (Some t))

-- The text after the apostrophe that ends an invalid quoted literal, or `None` if the literal has no end.
abbrev pub after_next_quote : List ℕ → Option (List ℕ)
after_next_quote [] = None
after_next_quote (c ∷ []) = cond (c == code "'") (Some []) None
after_next_quote (c ∷ e ∷ t) =
    cond (c == code "'") (Some (e ∷ t))
    (cond (c == code "\\") (after_next_quote t)
    (cond (stops_quote c (e ∷ t)) None (after_next_quote (e ∷ t))))

-- The text after the closing apostrophe and the suffix of an invalid quoted literal, where the given text follows the
-- opening apostrophe.
abbrev pub after_other : List ℕ → Option (List ℕ)
after_other t =
    cond (begins_char (code "\\") t) None (option_map after_suffix (after_next_quote t))

-- The text after the apostrophe at the start of a text, or `None` if the text doesn't begin with an apostrophe.
-- `past_closing` returns the text itself in place of `None`.
abbrev pub after_closing : List ℕ → Option (List ℕ)
after_closing [] = None
after_closing (c ∷ t) = cond (c == code "'") (Some t) None

abbrev pub past_closing : List ℕ → List ℕ
past_closing [] = []
past_closing (c ∷ t) = cond (c == code "'") t (c ∷ t)

-- The text after an invalid quoted literal without a prefix, where the given text follows the opening apostrophe.
abbrev pub after_bare : List ℕ → Option (List ℕ)
after_bare [] = None
after_bare (c ∷ t) =
    cond (is_ascii_digit c) (Some (past_closing (after_run is_continue t)))
    (cond (is_start c) (option_and_then after_closing (after_any_name (c ∷ t)))
    (after_other (c ∷ t)))

-- The text after the invalid quoted literal at the start of a text, or `None` if the literal has no end.
abbrev pub after_bad_quote : List ℕ → Option (List ℕ)
after_bad_quote [] = None
after_bad_quote (c ∷ t) =
    cond (c == code "'") (after_bare t)
    (cond (c == code "b" && begins_char (code "'") t) (after_other (drop 1 t)) None)

-- The kind of the stray character or the invalid quoted literal at the start of a text, and the text after it.
abbrev pub stray_at : List ℕ → Option (SourceKind × List ℕ)
stray_at [] = None
stray_at (c ∷ t) =
    cond (opens (c ∷ t)) (of_kind (PlainKind LiteralForm) (after_bad_quote (c ∷ t)))
    (Some (StrayKind, t))

abbrev pub or_stray : Option (SourceKind × List ℕ) → List ℕ → Option (SourceKind × List ℕ)
or_stray (Some p) t = Some p
or_stray None t = stray_at t

abbrev pub any_at : List ℕ → Option (SourceKind × List ℕ)
any_at t = or_stray (other_at t) t

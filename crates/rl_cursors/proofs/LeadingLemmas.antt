-- Lemmas on the literal at the start of a text. A text has at most one first token, so at most one literal is at its start.
use Rattle.rl_syntax.proofs.Common.{◌≡◌, ◌==◌, ℕ, zero, suc, Bool, false, true, ◌||◌, List, [], ◌∷◌, ◌++◌, Option, None, Some, refl, sym, subst, ap, ◌∙◌, arith, lit<, append_cancel_right, chars, chars_past_char, encode_ascii, encode_utf8_all, encodes-chars, IfNone, IsAscii, IsTrue, IsUtf8}
use Rattle.std.proofs.lemmas.Str.{IsUtf8-append, IsUtf8-from_ascii}
use Rattle.std.specs.Char.{is_ascii_digit}
use Rattle.rl_syntax.specs.Reading.{HasSuffix, truth_text}
use Rattle.rl_syntax.specs.declared.kind.Kind.{Kind}
use Rattle.rl_syntax.specs.Texts.{first_passes}
use Rattle.rl_syntax.specs.Reading.{HasNoReading}
use Rattle.rl_lexer.specs.Lexemes.{Lexeme, QuotedLexeme, RawLexeme, CharacterLexeme, BasedLexeme, DecimalLexeme, IdentifierLexeme, DelimiterLexeme, MarkLexeme, NoPrefix, BytePrefix, CPrefix, IsLexeme, lexeme_text, lexed_fraction_text, lexed_exponent_text, LexemeForm, form_of, LiteralForm, IdentifierForm, DelimiterForm, MarkForm}
use Rattle.rl_lexer.specs.BadQuotes.{BadQuote, WordQuote, RawWordQuote, DigitQuote, OtherQuote, ByteQuote, bad_quote_text}
use Rattle.rl_lexer.specs.Sources.{BeginsNoSource, IsLiteralText, IsSource, SourceBefore, SourceKind, SourceLexeme, PlainKind, PlainToken, RawIdentifierToken, LifetimeToken, RawLifetimeToken, DocLineToken, DocBlockToken, BadQuoteToken, StrayToken, source_kind, source_text}
use Rattle.rl_lexer.proofs.SourceLaws.{one_token}
use Rattle.rl_lenient.specs.Founds.{IsFound}
use Rattle.rl_lenient.specs.declared.found.Found.{Found}
use Rattle.rl_cursors.specs.Leading.{Leads, LeadsNone, LeadsNegative, LeadsNoNegative, may_lead}
use Rattle.rl_cursors.specs.declared.leading.LeadingLiteral.{LeadingLiteral}

-- A text that begins with no token doesn't begin with a literal.
pub none_begins : (text : List ℕ) → BeginsNoSource (chars text) → LeadsNone text
none_begins text none l h = none h.kind (chars l.following.now) h.begins

-- A text that begins with a token other than a literal doesn't begin with a literal.
pub other_begins : (text literal rest : List ℕ) (kind : SourceKind) → SourceBefore (chars text) kind rest
    → chars text ≡ literal ++ rest → (IsLiteralText kind literal → ⊥) → LeadsNone text
other_begins text literal rest kind begins are other l h =
    let same = one_token h.begins.token begins.token (chars l.following.now) rest h.begins.is_source begins.is_source
    (sym h.begins.text_is ∙ begins.text_is) in
    let kinds : h.kind ≡ kind = sym h.begins.kind_is ∙ same.kind ∙ begins.kind_is in
    let texts : chars l.text.now ≡ literal = append_cancel_right (chars l.text.now) literal rest
    (ap (λ z. chars l.text.now ++ z) (sym same.rest) ∙ sym h.chars_are ∙ are) in
    let both : ◌≡◌ {A = SourceKind × List ℕ} (h.kind, chars l.text.now) (kind, literal) = cc in
    other (subst (λ (z : SourceKind × List ℕ). IsLiteralText z.0 z.1) both h.is_literal)

-- At most one literal begins a text: two literals that begin it have equal texts.
one_leads : (text : List ℕ) (k l : LeadingLiteral) → Leads text k → Leads text l → chars k.text.now ≡ chars l.text.now
one_leads text k l p q =
    let same = one_token p.begins.token q.begins.token (chars k.following.now) (chars l.following.now)
    p.begins.is_source q.begins.is_source (sym p.begins.text_is ∙ q.begins.text_is) in
    append_cancel_right (chars k.text.now) (chars l.text.now) (chars l.following.now)
    (ap (λ z. chars k.text.now ++ z) (sym same.rest) ∙ sym p.chars_are ∙ q.chars_are)

pub truth_false : IsTrue false → ⊥
truth_false is = cc

-- ---- the first characters that a literal may begin with

digit_leads : (d : ℕ) (t : List ℕ) → is_ascii_digit d ≡ true → may_lead (d ∷ t) ≡ true
digit_leads d t is = go (is_ascii_digit d) _ is
  where
    go : (b others : Bool) → b ≡ true → (b || others) ≡ true
    go true others e = refl
    go false others e = absurd (let f : true ≡ false = sym e in cc)

lexeme_leads : (l : Lexeme) (after : List ℕ) → IsLexeme l after → form_of l ≡ LiteralForm
    → may_lead (lexeme_text l ++ after) ≡ true
lexeme_leads (QuotedLexeme NoPrefix parts suffix) after h e = refl
lexeme_leads (QuotedLexeme BytePrefix parts suffix) after h e = refl
lexeme_leads (QuotedLexeme CPrefix parts suffix) after h e = refl
lexeme_leads (RawLexeme NoPrefix zero body suffix) after h e = refl
lexeme_leads (RawLexeme NoPrefix (suc n) body suffix) after h e = refl
lexeme_leads (RawLexeme BytePrefix n body suffix) after h e = refl
lexeme_leads (RawLexeme CPrefix n body suffix) after h e = refl
lexeme_leads (CharacterLexeme true inside suffix) after h e = refl
lexeme_leads (CharacterLexeme false inside suffix) after h e = refl
lexeme_leads (BasedLexeme letter digits) after h e = refl
lexeme_leads (DecimalLexeme d more fraction exponent suffix) after h e =
    digit_leads d ((more ++ (lexed_fraction_text fraction ++ (lexed_exponent_text exponent ++ suffix))) ++ after) h.0
lexeme_leads (IdentifierLexeme c more) after h e = cc
lexeme_leads (DelimiterLexeme c) after h e = cc
lexeme_leads (MarkLexeme c) after h e = cc

bad_quote_leads : (q : BadQuote) (after : List ℕ) → may_lead (bad_quote_text q ++ after) ≡ true
bad_quote_leads (WordQuote c more) after = refl
bad_quote_leads (RawWordQuote c more) after = refl
bad_quote_leads (DigitQuote c more) after = refl
bad_quote_leads (OtherQuote parts suffix) after = refl
bad_quote_leads (ByteQuote parts suffix) after = refl

truth_leads : (b : Bool) (after : List ℕ) → may_lead (truth_text b ++ after) ≡ true
truth_leads true after = refl
truth_leads false after = refl

token_leads : (w : SourceLexeme) (after literal : List ℕ) → IsSource w after → IsLiteralText (source_kind w) literal
    → source_text w ++ after ≡ literal ++ after → may_lead (source_text w ++ after) ≡ true
token_leads (PlainToken l) after literal is lit same = plain (form_of l) refl lit
  where
    plain : (form : LexemeForm) → form_of l ≡ form → IsLiteralText (PlainKind form) literal
        → may_lead (lexeme_text l ++ after) ≡ true
    plain LiteralForm e h = lexeme_leads l after is e
    plain IdentifierForm e h = ap may_lead (same ∙ ap (λ z. z ++ after) h.1) ∙ truth_leads h.0 after
    plain (DelimiterForm c) e h = absurd h
    plain (MarkForm c) e h = absurd h
token_leads (RawIdentifierToken c more) after literal is lit same = absurd lit
token_leads (LifetimeToken c more) after literal is lit same = absurd lit
token_leads (RawLifetimeToken c more) after literal is lit same = absurd lit
token_leads (DocLineToken body) after literal is lit same = absurd lit
token_leads (DocBlockToken inside) after literal is lit same = absurd lit
token_leads (BadQuoteToken q) after literal is lit same = bad_quote_leads q after
token_leads (StrayToken c) after literal is lit same = absurd lit

-- If the first characters of a text can't begin a literal, the text's first token isn't a literal.
pub no_lead : (text : List ℕ) → may_lead (chars text) ≡ false → LeadsNone text
no_lead text none l h =
    let after = chars l.following.now in
    let lit = subst (λ z. IsLiteralText z (chars l.text.now)) (sym h.begins.kind_is) h.is_literal in
    let leads = token_leads h.begins.token after (chars l.text.now) h.begins.is_source lit
    (sym h.begins.text_is ∙ h.chars_are) in
    truth_false (let e : true ≡ false = sym leads ∙ sym (ap may_lead h.begins.text_is) ∙ none in cc)

-- ---- a minus directly before a number

minus_chars : (t : List ℕ) → IsUtf8 (45 ∷ t) → chars (45 ∷ t) ≡ 45 ∷ chars t
minus_chars t u = chars_past_char (45 ∷ t) t 45 u (sym (ap (λ x. x ++ t) (encode_ascii 45 (lit< tt))))

minus_text : (t : List ℕ) → IsUtf8 t → IsUtf8 (45 ∷ t)
minus_text t u = IsUtf8-append (45 ∷ []) t (IsUtf8-from_ascii (45 ∷ []) minus_ascii) u
  where
    minus_ascii : IsAscii (45 ∷ [])
    minus_ascii zero = lit< tt
    minus_ascii (suc i) = omega arith

pub minus_bytes : (text unsigned : List ℕ) → IsUtf8 text → IsUtf8 unsigned → chars text ≡ 45 ∷ chars unsigned → text
    ≡ 45 ∷ unsigned
minus_bytes text unsigned u v are = sym (encodes-chars text u)
    ∙ ap encode_utf8_all (are ∙ sym (minus_chars unsigned (minus_text unsigned v)))
    ∙ encodes-chars (45 ∷ unsigned) (minus_text unsigned v)

pub no_minus : (text : List ℕ) → IsUtf8 text → first_passes (λ c. c == 45) (chars text) ≡ false → LeadsNoNegative text
no_minus text u none l n =
    let are : chars text ≡ 45 ∷ chars n.unsigned = ap chars n.minus ∙ minus_chars n.unsigned (subst IsUtf8 n.minus u) in
    absurd (let e : true ≡ false = sym (ap (first_passes (λ c. c == 45)) are) ∙ none in cc)

tails : (x y : List ℕ) → 45 ∷ x ≡ 45 ∷ y → x ≡ y
tails x y e = cc

same_leads : (text unsigned : List ℕ) (l : LeadingLiteral) → text ≡ 45 ∷ unsigned → (n : LeadsNegative text l)
    → Leads unsigned n.number
same_leads text unsigned l is n = subst (λ (z : List ℕ). Leads z n.number)
    (tails n.unsigned unsigned (sym n.minus ∙ is)) n.leads

pub no_number : (text unsigned : List ℕ) → text ≡ 45 ∷ unsigned → LeadsNone unsigned → LeadsNoNegative text
no_number text unsigned is none l n = none n.number (same_leads text unsigned l is n)

pub no_sum : (text unsigned : List ℕ) (number : LeadingLiteral) → text ≡ 45 ∷ unsigned → Leads unsigned number
    → HasNoReading (45 ∷ chars number.text.now) → LeadsNoNegative text
no_sum text unsigned number is leads none l n =
    let other = same_leads text unsigned l is n in
    let same : chars n.number.text.now ≡ chars number.text.now = one_leads unsigned n.number number other leads in
    let found : IsFound (45 ∷ n.number.text.now) n.found = subst (λ (z : List ℕ). IsFound z n.found) n.literal n.is_found
    in
    let here : chars (45 ∷ n.number.text.now) ≡ 45 ∷ chars number.text.now =
    minus_chars n.number.text.now (minus_text n.number.text.now other.is_text) ∙ ap (λ z. 45 ∷ z) same in
    unread (chars (45 ∷ n.number.text.now)) (subst HasNoReading (sym here) none) _ n.found.kind found.reads
  where
    unread : (t : List ℕ) → HasNoReading t → (x : List ℕ) (kind : Kind) → HasSuffix kind t x → ⊥
    unread t none x kind r = none kind r.0 x r.1

pub negative : (text unsigned cut : List ℕ) (l number : LeadingLiteral) (found : Found) → IsUtf8 text → IsUtf8 unsigned
    → chars text ≡ 45 ∷ chars unsigned → Leads unsigned number → IsFound (45 ∷ number.text.now) found
    → text ≡ cut ++ number.following.now → l.text.now ≡ cut → l.following.now ≡ number.following.now → l.found ≡ Some found
    → LeadsNegative text l
negative text unsigned cut l number found u v are leads is whole text_is following found_is =
    let minus = minus_bytes text unsigned u v are in
    let front : cut ≡ 45 ∷ number.text.now = append_cancel_right cut (45 ∷ number.text.now) number.following.now
    (sym whole ∙ minus ∙ ap (λ z. 45 ∷ z) leads.bytes_are) in
    record {
      unsigned = unsigned;
      number = number;
      found = found;
      minus = minus;
      leads = leads;
      literal = text_is ∙ front;
      following = following;
      is_found = subst (λ (z : List ℕ). IsFound z found) (sym (text_is ∙ front)) is;
      found_is = found_is;
    }

pub if_none : {A : Type 0} (r : Option A) {X : Type 0} → X → IfNone r X
if_none None x = x
if_none (Some y) x = tt

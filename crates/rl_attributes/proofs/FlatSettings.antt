-- Lemmas about the token trees of a setting that is lexed token by token.
use Rattle.rl_syntax.proofs.Common.{◌≡◌, ℕ, ◌≤◌, inl, inr, true, List, [], ◌∷◌, ◌++◌, length, length-append, Option, Some, None, refl, sym, ◌∙◌, ap, subst, arith, nat_tests, append_assoc, chars, codes, encode_ascii, length-encode, len_utf8_bounds, replicate, if◌then◌else◌, ◌==◌}
use Rattle.std.specs.Prelude.{min, max, IsSomeAnd}
use Rattle.rl_syntax.specs.declared.span.Span.{Span}
use Rattle.rl_syntax.specs.Texts.{SpannedText, byte_len}
use Rattle.rl_syntax.proofs.Rests.{tail_length}
use Rattle.rl_syntax.specs.declared.kind.Kind.{Kind}
use Rattle.rl_syntax.specs.declared.kind.Kind.TheVariants.{Bool as BoolKind}
use Rattle.rl_syntax.specs.Reading.{ReadsAs}
use Rattle.rl_lexer.specs.declared.cursor.Lexeme.{Lexeme as Lent}
use Rattle.rl_lexer.specs.Lexemes.{Lexeme, QuotedLexeme, RawLexeme, CharacterLexeme, BasedLexeme, DecimalLexeme, IdentifierLexeme, DelimiterLexeme, MarkLexeme, lexeme_text, prefix_text, body_text, character_body_text, lexed_fraction_text, lexed_exponent_text, LexemeForm, LiteralForm, IdentifierForm, DelimiterForm, MarkForm, form_of}
use Rattle.rl_lexer.specs.Cursors.{form_view, CursorState, TakesNext}
use Rattle.rl_lexer.proofs.CutLemmas.{byte_len-append}
use Rattle.rl_lenient.specs.declared.found.Found.{Found}
use Rattle.rl_cursors.specs.declared.next_literals.NextLiteral.{NextLiteral}
use Rattle.rl_lenient.specs.Founds.{IsFound, suffix_in}
use Rattle.rl_cursors.specs.NextLiterals.{IsLiteralToken, TakesNegative, TakesNextLiteral}
use Rattle.rl_cursors.specs.declared.settings.NextSetting.{NextSetting}
use Rattle.rl_cursors.specs.SettingSteps.{TakesName, TakesMark, TakesSetting}
use Rattle.rl_tokens.specs.Puncts.{Mark}
use Rattle.rl_tokens.specs.Trees.{Tree, IdentTree, PunctTree, LiteralTree}
use Rattle.rl_tokens.specs.Buffers.{IsAfterMark}
use Rattle.rl_fronts.specs.Fronts.{IsFront, joined, joined_span}
use Rattle.rust_literals.specs.Flat.{LexesTreesUpTo}
use Rattle.rust_literals.proofs.FlatLemmas.{tree_more}
use Rattle.rust_literals.proofs.LitLemmas.{found_behind}
use Rattle.rl_attributes.specs.Attributes.{Attribute, IsAttribute}
use Rattle.rl_attributes.specs.AttributeSteps.{IsNext}
use Rattle.rl_attributes.specs.NextEntries.{borrowed_token, signed_token, value_token, attribute_at}

-- ---- lemmas about consumed tokens as token trees

-- The tokens between the cursors `old` and `new` are the token trees `trees`. The token trees contain no groups.
pub record TakesTrees (file : ℕ) (old : CursorState) (trees : List Tree) (new : CursorState) : Type 0 where
  pub cuts : (done : List Tree) → LexesTreesUpTo (chars old.text) file done (chars old.rest)
      → LexesTreesUpTo (chars old.text) file (done ++ trees) (chars new.rest)
  pub same : new.text ≡ old.text

pub takes_both : (file : ℕ) (a b c : CursorState) (xs ys : List Tree) → TakesTrees file a xs b → TakesTrees file b ys c
    → TakesTrees file a (xs ++ ys) c
takes_both file a b c xs ys p q =
    let Into : List ℕ → List Tree → Type 0 = λ text trees. LexesTreesUpTo (chars text) file trees (chars c.rest) in
    let From : List ℕ → List Tree → Type 0 = λ text trees. LexesTreesUpTo (chars text) file trees (chars b.rest) in
    record {
      cuts = λ done h.
          let first : From a.text (done ++ xs) = p.cuts done h in
          let second : Into b.text ((done ++ xs) ++ ys) = q.cuts (done ++ xs)
          (subst (λ (t : List ℕ). From t (done ++ xs)) (sym p.same) first) in
          subst (λ (ts : List Tree). Into a.text ts) (append_assoc done xs ys)
          (subst (λ (t : List ℕ). Into t ((done ++ xs) ++ ys)) p.same second);
      same = q.same ∙ p.same;
    }

takes_name : (file : ℕ) (old new : CursorState) (l : Lent) → TakesName old l new
    → TakesTrees file old (IdentTree (borrowed_token file l) ∷ []) new
takes_name file old new l (t, is) = record {
  cuts = λ done c. tree_more file old new l IdentifierForm (IdentTree (borrowed_token file l)) done t is refl refl tt c;
  same = t.same;
}

takes_literal : (file : ℕ) (old new : CursorState) (l : Lent) → TakesNext old l new → form_view l.form ≡ LiteralForm
    → TakesTrees file old (LiteralTree (borrowed_token file l) ∷ []) new
takes_literal file old new l t is = record {
  cuts = λ done c. tree_more file old new l LiteralForm (LiteralTree (borrowed_token file l)) done t is refl refl tt c;
  same = t.same;
}

abbrev mark_at : ℕ → ℕ → Lent → Mark
mark_at c file l = record { ch = c; span = record { file = file; lo = l.lo; hi = l.hi } }

takes_mark : (c file : ℕ) (old new : CursorState) (l : Lent) → TakesNext old l new → form_view l.form ≡ MarkForm c
    → TakesTrees file old (PunctTree (mark_at c file l) ∷ []) new
takes_mark c file old new l t is = record {
  cuts = λ done h. tree_more file old new l (MarkForm c) (PunctTree (mark_at c file l)) done t is refl refl tt h;
  same = t.same;
}

after_mark : (c file : ℕ) (l : Lent) (rest : List Tree) → IsAfterMark c (PunctTree (mark_at c file l) ∷ rest) rest
after_mark c file l rest = record { mark = mark_at c file l; trees_are = refl; is = refl }

-- ---- lemmas about the span of a minus and its number

some_char : (c : ℕ) (cs : List ℕ) → 1 ≤ byte_len (c ∷ cs)
some_char c cs =
    let bounds = len_utf8_bounds c in
    omega (arith, byte_len-append (c ∷ []) cs, length-append {A = ℕ}, length-encode c, bounds.0)

some_back : (a b : List ℕ) → 1 ≤ byte_len b → 1 ≤ byte_len (a ++ b)
some_back a b h = omega (arith, byte_len-append a b)

some_front : (a b : List ℕ) → 1 ≤ byte_len a → 1 ≤ byte_len (a ++ b)
some_front a b h = omega (arith, byte_len-append a b)

-- Each lexeme is at least one byte long.
lexeme_long : (l : Lexeme) → 1 ≤ byte_len (lexeme_text l)
lexeme_long (QuotedLexeme p parts x) =
    some_back (prefix_text p ++ (34 ∷ body_text parts)) (34 ∷ x) (some_char 34 x)
lexeme_long (RawLexeme p n body x) =
    let front : List ℕ = (prefix_text p ++ (114 ∷ replicate n 35)) ++ (34 ∷ body) in
    some_front (front ++ (34 ∷ replicate n 35)) x (some_back front (34 ∷ replicate n 35)
    (some_char 34 (replicate n 35)))
lexeme_long (CharacterLexeme b inside x) =
    some_back ((if b then codes "b" else []) ++ (39 ∷ character_body_text inside)) (39 ∷ x) (some_char 39 x)
lexeme_long (BasedLexeme letter digits) = some_char 48 (letter ∷ digits)
lexeme_long (DecimalLexeme d more fr ex x) =
    some_front (d ∷ more) (lexed_fraction_text fr ++ (lexed_exponent_text ex ++ x)) (some_char d more)
lexeme_long (IdentifierLexeme c more) = some_char c more
lexeme_long (DelimiterLexeme c) = some_char c []
lexeme_long (MarkLexeme c) = some_char c []

-- A minus has one byte.
minus_short : (l : Lexeme) → form_of l ≡ MarkForm 45 → byte_len (lexeme_text l) ≡ 1
minus_short (MarkLexeme c) e =
    let same : c ≡ 45 = cc in
    ap (λ (k : ℕ). byte_len (k ∷ [])) same ∙ ap length (ap (λ x. x ++ []) (encode_ascii 45 (omega arith)))
minus_short (QuotedLexeme p parts x) e = absurd (cc)
minus_short (RawLexeme p n body x) e = absurd (cc)
minus_short (CharacterLexeme b inside x) e = absurd (cc)
minus_short (BasedLexeme letter digits) e = absurd (cc)
minus_short (DecimalLexeme d more fr ex x) e = absurd (cc)
minus_short (IdentifierLexeme c more) e = absurd (cc)
minus_short (DelimiterLexeme c) e = absurd (cc)

-- The byte range of a number that follows a minus begins and ends no earlier than the byte range of the minus.
number_behind : (old between new : CursorState) (m l : Lent) → TakesNext old m between → TakesNext between l new
    → form_view m.form ≡ MarkForm 45 → (m.lo ≤ l.lo) × (m.hi ≤ l.hi)
number_behind old between new m l t u is =
    let behind : length between.rest ≤ length old.rest = omega (arith, tail_length old.rest between.rest t.following) in
    let lo : m.lo ≤ l.lo = omega (arith, t.place, u.place, ap length t.same) in
    let short : byte_len (lexeme_text t.cut.lexeme) ≡ 1 = minus_short t.cut.lexeme (t.is_cut.form_is ∙ is) in
    let long : 1 ≤ byte_len (lexeme_text u.cut.lexeme) = lexeme_long u.cut.lexeme in
    (lo, omega (arith, lo, short, long, t.is_cut.lo_is, t.is_cut.hi_is, u.is_cut.lo_is, u.is_cut.hi_is))

joined_is : (file a b c d : ℕ) → a ≤ c → b ≤ d → joined_span (record { file = file; lo = a; hi = b })
    (record { file = file; lo = c; hi = d }) ≡ record { file = file; lo = a; hi = d }
joined_is file a b c d p q =
    let same : (file == file) ≡ true = grind (arith, nat_tests) in
    let span : ℕ → ℕ → Span = λ lo hi. record { file = file; lo = lo; hi = hi } in
    let lo : min a c ≡ a = omega arith in
    let hi : max b d ≡ d = omega arith in
    ap (λ x. if x then span (min a c) (max b d) else span a b) same ∙ ap (λ n. span n (max b d)) lo
    ∙ ap (λ n. span a n) hi

-- ---- lemmas about the literal of a setting

-- The tokens between the cursors `old` and `new` are the literal `value`, whatever token trees follow.
pub record TakesFront (file : ℕ) (old : CursorState) (value : NextLiteral) (new : CursorState) : Type 0 where
  pub trees : List Tree
  pub takes : TakesTrees file old trees new
  pub front : (following : List Tree) → IsFront (trees ++ following) (value_token file value) following

bool_of : (text : List ℕ) (o : Option Found) → IsSomeAnd o (λ f. IsFound text f × (f.kind ≡ BoolKind))
    → ReadsAs BoolKind (chars text)
bool_of text None h = absurd h
bool_of text (Some f) (h, e) =
    subst (λ (k : Kind). ReadsAs k (chars text)) e (h.reads.0, chars (suffix_in text f.body), h.reads.1)

one_token : (file : ℕ) (old new : CursorState) (value : NextLiteral) (f : LexemeForm) → TakesNext old value.token new
    → form_view value.token.form ≡ f → IsLiteralToken f value.token.text.now value.found → value.minus_at ≡ None
    → TakesFront file old value new
one_token file old new value LiteralForm t is h none = record {
  trees = LiteralTree (borrowed_token file value.token) ∷ [];
  takes = takes_literal file old new value.token t is;
  front = λ following. (ap (λ m. signed_token file m value.token) none, refl);
}
one_token file old new value IdentifierForm t is h none = record {
  trees = IdentTree (borrowed_token file value.token) ∷ [];
  takes = takes_name file old new value.token (t, is);
  front = λ following. (
    bool_of value.token.text.now value.found h,
    ap (λ m. signed_token file m value.token) none,
    refl,
  );
}
one_token file old new value (DelimiterForm c) t is h none = absurd h
one_token file old new value (MarkForm c) t is h none = absurd h

signed : (file : ℕ) (old new : CursorState) (value : NextLiteral) → TakesNegative old value new
    → TakesFront file old value new
signed file old new value n =
    let m = n.minus in
    let l = value.token in
    let order = number_behind old n.between new m l n.takes_minus n.takes_number n.is_minus in
    let span : joined_span (record { file = file; lo = m.lo; hi = m.hi }) (record { file = file; lo = l.lo; hi = l.hi })
    ≡ record { file = file; lo = m.lo; hi = l.hi } = joined_is file m.lo m.hi l.lo l.hi order.0 order.1 in
    let token : value_token file value ≡ joined (mark_at 45 file m) (borrowed_token file l) =
    ap (λ o. signed_token file o l) n.minus_is
    ∙ ap (λ s. let t : SpannedText = record { text = 45 ∷ l.text.now; span = s } in t) (sym span) in
    record {
      trees = PunctTree (mark_at 45 file m) ∷ LiteralTree (borrowed_token file l) ∷ [];
      takes = takes_both file old n.between new (PunctTree (mark_at 45 file m) ∷ [])
          (LiteralTree (borrowed_token file l) ∷ [])
          (takes_mark 45 file old n.between m n.takes_minus n.is_minus)
          (takes_literal file n.between new l n.takes_number n.is_number);
      front = λ following. (refl, found_behind l.text.now n.found n.is_found, token, refl);
    }

takes_value : (file : ℕ) (old new : CursorState) (value : NextLiteral) → TakesNextLiteral old value new
    → TakesFront file old value new
takes_value file old new value (inl t) =
    one_token file old new value (form_view value.token.form) t.takes refl t.literal t.no_minus
takes_value file old new value (inr n) = signed file old new value n

-- ---- lemmas about a whole setting

-- The tokens between the cursors `old` and `new` are the attribute `a` and its comma, whatever token trees follow. At
-- the end of the text the comma may be missing.
pub record TakesAttribute (file : ℕ) (old : CursorState) (a : Attribute) (new : CursorState) : Type 0 where
  pub trees : List Tree
  pub takes : TakesTrees file old trees new
  pub next : (following : List Tree) → (new.rest ≡ [] → following ≡ []) → IsNext (trees ++ following) a following

-- An identifier, `=` and the token trees of a literal are an attribute.
attribute_trees : (file : ℕ) (name eq : Lent) (value : NextLiteral) (trees following : List Tree)
    → IsFront (trees ++ following) (value_token file value) following
    → IsAttribute ((IdentTree (borrowed_token file name) ∷ PunctTree (mark_at 61 file eq) ∷ trees) ++ following)
    (record { name = borrowed_token file name; literal = value_token file value }) following
attribute_trees file name eq value trees following front = record {
  at_equals = PunctTree (mark_at 61 file eq) ∷ (trees ++ following);
  at_literal = trees ++ following;
  named = refl;
  equals = after_mark 61 file eq (trees ++ following);
  set = front;
}

with_comma : (file : ℕ) (old at_comma new : CursorState) (a : Attribute) (trees : List Tree)
    → TakesTrees file old trees at_comma
    → ((following : List Tree) → IsAttribute (trees ++ following) a following) → TakesMark 44 at_comma new
    → TakesAttribute file old a new
with_comma file old at_comma new a trees takes is (l, t, form_is) =
    let comma : Tree = PunctTree (mark_at 44 file l) in record {
      trees = trees ++ comma ∷ [];
      takes = takes_both file old at_comma new trees (comma ∷ []) takes (takes_mark 44 file at_comma new l t form_is);
      next = λ following ends. record {
        following = comma ∷ following;
        is = subst (λ (ts : List Tree). IsAttribute ts a (comma ∷ following))
            (sym (append_assoc trees (comma ∷ []) following)) (is (comma ∷ following));
        comma = inl (after_mark 44 file l following);
      };
    }

at_the_end : (file : ℕ) (old at_comma new : CursorState) (a : Attribute) (trees : List Tree)
    → TakesTrees file old trees at_comma
    → ((following : List Tree) → IsAttribute (trees ++ following) a following) → at_comma.rest ≡ [] → new ≡ at_comma
    → TakesAttribute file old a new
at_the_end file old at_comma new a trees takes is nothing stays =
    let ended : new.rest ≡ [] = ap (λ (t : CursorState). t.rest) stays ∙ nothing in record {
      trees = trees;
      takes = subst (λ (t : CursorState). TakesTrees file old trees t) (sym stays) takes;
      next = λ following ends. record { following = following; is = is following; comma = inr (ends ended, ends ended) };
    }

pub takes_attribute : (file : ℕ) (old new : CursorState) (s : NextSetting) → TakesSetting old s new
    → TakesAttribute file old (attribute_at file s) new
takes_attribute file old new s t =
    let (eq, takes_eq, eq_is) = t.sets.equals in
    let value = takes_value file t.sets.at_literal t.sets.following s.value t.sets.literal in
    let name : Tree = IdentTree (borrowed_token file s.name) in
    let equals : Tree = PunctTree (mark_at 61 file eq) in
    let front : TakesTrees file old (name ∷ equals ∷ []) t.sets.at_literal =
    takes_both file old t.following t.sets.at_literal (name ∷ []) (equals ∷ [])
    (takes_name file old t.following s.name t.named)
    (takes_mark 61 file t.following t.sets.at_literal eq takes_eq eq_is) in
    let all : TakesTrees file old (name ∷ equals ∷ value.trees) t.sets.following =
    takes_both file old t.sets.at_literal t.sets.following (name ∷ equals ∷ []) value.trees front value.takes in
    let is : (following : List Tree) → IsAttribute ((name ∷ equals ∷ value.trees) ++ following) (attribute_at file s)
    following = λ following. attribute_trees file s.name eq s.value value.trees following (value.front following) in
    elim t.sets.comma [
      | inl comma ↦ with_comma file old t.sets.following new (attribute_at file s) (name ∷ equals ∷ value.trees) all is
          comma
      | inr e ↦ at_the_end file old t.sets.following new (attribute_at file s) (name ∷ equals ∷ value.trees) all is e.0
          e.1
    ]

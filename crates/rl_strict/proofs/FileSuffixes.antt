-- In a file, three results of the code don't change if CR LF is read as LF: the flaw of a suffix, the flaw of a text that
-- begins neither as a number nor as a quoted literal, and the opening delimiter.
use Rattle.rl_strict.proofs.Names.{◌≡◌, ℕ, Bool, true, false, not, ◌==◌, ◌&&◌, ◌||◌, cond, List, [], ◌∷◌, Option, Some, None, refl, sym, ap, subst, ◌∙◌, arith, and_parts, not-true, is_xid_continue, is_xid_continue-ascii, is_xid_start, is_xid_start-ascii, list_all, option_map, ByteStr, CStr, Kind, Str, after_run, first_passes, truth_text, and_left, is_continue, is_start, is_white, all_weaker, apart, run, FoundOpener, byte_opener_at, opener_at, string_opener_at, is_some_text, QuotedForm, CookedForm, RawForm, SingleForm, run_all, run_join, and_from, FlawKind, BadSuffix, TextAfterQuote, ExtraHash, NotALiteral, UnderscoreSuffix, UnexpectedEnd, is_dropped, lf_text, IsRestOf, File, form_quote, is_raw_form, begins_hash, suffix_end_flaw_at, suffix_rest, is_lone_underscore, suffix_end_read, suffix_read_at, FoundFlaw, found_flaw, after_letters, end_flaw_at, word_flaw_at}
use Rattle.rl_strict.proofs.FileTextLemmas.{by_first, lacks_cr, line_of, rest_free, rest_self, when_kept}

-- ---- a function applied to both cases of a condition

pub both : {A B : Type 0} (f : A → B) (b : Bool) (x y : A) (u v : B) → u ≡ f x → v ≡ f y → cond b u v ≡ f (cond b x y)
both f true x y u v p q = p
both f false x y u v p q = q

-- The flaw, with CR LF read as LF in the text that begins at the flaw. The kind of flaw doesn't change.
abbrev pub lf_flaw : FoundFlaw → FoundFlaw
lf_flaw flaw = (flaw.0, lf_text flaw.1)

-- ---- tests of characters, and sequences of characters that pass a test

-- Reading CR LF as LF doesn't change whether the first character of a text passes a test that has equal results for CR and
-- LF.
pub first_read : (test : ℕ → Bool) → test 13 ≡ test 10 → (t : List ℕ) → first_passes test (lf_text t)
    ≡ first_passes test t
first_read test e t = by_first (λ z r. first_passes test r ≡ first_passes test z) refl (λ cs. sym e) (λ c cs k. refl) t

pub some_read : (t : List ℕ) → is_some_text (lf_text t) ≡ is_some_text t
some_read t = first_read (λ c. true) refl t

-- Let a test fail for CR and LF. Skipping the first characters that pass the test, and then reading CR LF as LF, gives the
-- text that these two steps give in the other order.
pub run_read : (test : ℕ → Bool) → test 13 ≡ false → test 10 ≡ false → (t : List ℕ) → after_run test (lf_text t)
    ≡ lf_text (after_run test t)
run_read test r l [] = refl
run_read test r l (c ∷ cs) = go (run_read test r l cs) (is_dropped c cs) refl
  where
    At : List ℕ → Type 0
    At z = after_run test (lf_text z) ≡ lf_text (after_run test z)

    line : (ds : List ℕ) → At (13 ∷ 10 ∷ ds)
    line ds = ap (λ b. cond b (after_run test (lf_text ds)) (10 ∷ lf_text ds)) l
        ∙ sym (ap (λ b. lf_text (cond b (after_run test (10 ∷ ds)) (13 ∷ 10 ∷ ds))) r)

    go : At cs → (b : Bool) → is_dropped c cs ≡ b → At (c ∷ cs)
    go ih true h = let found = line_of c cs h in subst At (sym found.1) (line found.0)
    go ih false h =
        let e = when_kept c cs h in
        ap (after_run test) e ∙ both lf_text (test c) (after_run test cs) (c ∷ cs) (after_run test (lf_text cs))
        (c ∷ lf_text cs) ih (sym e)

-- Reading CR LF as LF doesn't change the first characters of a text that pass a test, if the test fails for CR and LF.
pub front_read : (test : ℕ → Bool) → test 13 ≡ false → test 10 ≡ false → (t : List ℕ) → run test (lf_text t)
    ≡ run test t
unfolding run
front_read test r l [] = refl
front_read test r l (c ∷ cs) = go (front_read test r l cs) (is_dropped c cs) refl
  where
    At : List ℕ → Type 0
    At z = run test (lf_text z) ≡ run test z

    line : (ds : List ℕ) → At (13 ∷ 10 ∷ ds)
    line ds = ap (λ b. cond b (10 ∷ run test (lf_text ds)) []) l ∙ sym (ap (λ b. cond b (13 ∷ run test (10 ∷ ds)) []) r)

    go : At cs → (b : Bool) → is_dropped c cs ≡ b → At (c ∷ cs)
    go ih true h = let found = line_of c cs h in subst At (sym found.1) (line found.0)
    go ih false h = ap (run test) (when_kept c cs h) ∙ ap (λ z. cond (test c) (c ∷ z) []) ih

-- If a test fails for CR, the text after the first characters that pass the test doesn't begin between a CR and its LF.
pub run_rest : (test : ℕ → Bool) → test 13 ≡ false → (t : List ℕ) → IsRestOf File t (after_run test t)
run_rest test r t = rest_free t (run test t) (after_run test t) (run_join test t)
    (all_weaker test (λ c. not (c == 13)) (λ c h. ap not (apart test c 13 h r)) (run test t) (run_all test t))

-- ---- suffixes in a file

cr_start : is_start 13 ≡ false
cr_start = and_left (13 == 95 || is_xid_start 13) (not (is_white 13)) (is_xid_start-ascii 13 (omega arith))

lf_start : is_start 10 ≡ false
lf_start = and_left (10 == 95 || is_xid_start 10) (not (is_white 10)) (is_xid_start-ascii 10 (omega arith))

cr_continue : is_continue 13 ≡ false
cr_continue = and_left (is_xid_continue 13) (not (is_white 13)) (is_xid_continue-ascii 13 (omega arith))

lf_continue : is_continue 10 ≡ false
lf_continue = and_left (is_xid_continue 10) (not (is_white 10)) (is_xid_continue-ascii 10 (omega arith))

pub suffix_rest_read : (t : List ℕ) → suffix_rest (lf_text t) ≡ lf_text (suffix_rest t)
unfolding suffix_rest
suffix_rest_read t = by_first (λ z r. suffix_rest r ≡ lf_text (suffix_rest z)) refl line kept t
  where
    line : (cs : List ℕ) → suffix_rest (10 ∷ lf_text cs) ≡ lf_text (suffix_rest (13 ∷ 10 ∷ cs))
    line cs = ap (λ b. cond b (after_run is_continue (lf_text cs)) (10 ∷ lf_text cs)) lf_start
        ∙ sym (ap (λ b. lf_text (cond b (after_run is_continue (10 ∷ cs)) (13 ∷ 10 ∷ cs))) cr_start)

    kept : (c : ℕ) (cs : List ℕ) → lf_text (c ∷ cs) ≡ c ∷ lf_text cs → suffix_rest (c ∷ lf_text cs)
        ≡ lf_text (suffix_rest (c ∷ cs))
    kept c cs e = both lf_text (is_start c) (after_run is_continue cs) (c ∷ cs) (after_run is_continue (lf_text cs))
        (c ∷ lf_text cs) (run_read is_continue cr_continue lf_continue cs) (sym e)

pub suffix_in : (t : List ℕ) → IsRestOf File t (suffix_rest t)
unfolding suffix_rest
suffix_in [] = rest_self []
suffix_in (c ∷ cs) = go (is_start c) refl
  where
    word : is_start c ≡ true → lacks_cr (c ∷ run is_continue cs) ≡ true
    word h = and_from (not (c == 13)) (lacks_cr (run is_continue cs)) (ap not (apart is_start c 13 h cr_start))
        (all_weaker is_continue (λ d. not (d == 13)) (λ d k. ap not (apart is_continue d 13 k cr_continue))
        (run is_continue cs) (run_all is_continue cs))

    go : (b : Bool) → is_start c ≡ b → IsRestOf File (c ∷ cs) (cond b (after_run is_continue cs) (c ∷ cs))
    go true h = rest_free (c ∷ cs) (c ∷ run is_continue cs) (after_run is_continue cs)
        (ap (λ z. c ∷ z) (run_join is_continue cs)) (word h)
    go false h = rest_self (c ∷ cs)

lone_read : (t : List ℕ) → is_lone_underscore (lf_text t) ≡ is_lone_underscore t
lone_read t = by_first (λ z r. is_lone_underscore r ≡ is_lone_underscore z) refl (λ cs. line (is_some_text (lf_text cs)))
    (λ c cs e. ap (λ b. cond b false (c == 95)) (some_read cs)) t
  where
    line : (b : Bool) → cond b false false ≡ false
    line true = refl
    line false = refl

hash_read : (form : QuotedForm) (t : List ℕ) → begins_hash form (lf_text t) ≡ begins_hash form t
hash_read form t = ap (λ b. is_raw_form form && b) (first_read (λ c. c == 35) refl t)

ends_read : (form : QuotedForm) (t : List ℕ) → suffix_end_flaw_at form (lf_text t) ≡ lf_flaw (suffix_end_flaw_at form t)
ends_read form t = by_first (λ z r. suffix_end_flaw_at form r ≡ lf_flaw (suffix_end_flaw_at form z)) refl (line form) kept
    t
  where
    line : (form : QuotedForm) (cs : List ℕ) → suffix_end_flaw_at form (10 ∷ lf_text cs)
        ≡ lf_flaw (suffix_end_flaw_at form (13 ∷ 10 ∷ cs))
    line CookedForm cs = refl
    line RawForm cs = refl
    line SingleForm cs = refl

    kept : (c : ℕ) (cs : List ℕ) → lf_text (c ∷ cs) ≡ c ∷ lf_text cs → suffix_end_flaw_at form (c ∷ lf_text cs)
        ≡ lf_flaw (suffix_end_flaw_at form (c ∷ cs))
    kept c cs e = both lf_flaw (c == form_quote form) (found_flaw TextAfterQuote (c ∷ cs)) (found_flaw BadSuffix (c ∷ cs))
        (found_flaw TextAfterQuote (c ∷ lf_text cs)) (found_flaw BadSuffix (c ∷ lf_text cs))
        (ap (found_flaw TextAfterQuote) (sym e)) (ap (found_flaw BadSuffix) (sym e))

end_read : (form : QuotedForm) (t r : List ℕ) → suffix_end_read form (lf_text t) (lf_text r)
    ≡ option_map lf_flaw (suffix_end_read form t r)
end_read form t r = by_first (λ z s. suffix_end_read form (lf_text t) s ≡ option_map lf_flaw (suffix_end_read form t z))
    end (λ cs. ap Some (ends_read form (13 ∷ 10 ∷ cs)))
    (λ c cs e. ap Some (ap (suffix_end_flaw_at form) (sym e) ∙ ends_read form (c ∷ cs))) r
  where
    end : suffix_end_read form (lf_text t) [] ≡ option_map lf_flaw (suffix_end_read form t [])
    end = ap (λ b. cond {A = Option FoundFlaw} b (Some (found_flaw UnderscoreSuffix [])) None) (lone_read t)
        ∙ both (option_map lf_flaw) (is_lone_underscore t) (Some (found_flaw UnderscoreSuffix [])) None
        (Some (found_flaw UnderscoreSuffix [])) None refl refl

-- The flaw after a closing delimiter doesn't change if CR LF is read as LF.
pub suffix_read : (form : QuotedForm) (t : List ℕ) → suffix_read_at form (lf_text t)
    ≡ option_map lf_flaw (suffix_read_at form t)
unfolding suffix_read_at
suffix_read form t =
    let at : List ℕ → Option FoundFlaw = λ z. suffix_end_read form z (suffix_rest z) in
    ap (λ b. cond {A = Option FoundFlaw} b (Some (found_flaw ExtraHash (lf_text t))) (at (lf_text t))) (hash_read form t)
    ∙ both (option_map lf_flaw) (begins_hash form t) (Some (found_flaw ExtraHash t)) (at t)
    (Some (found_flaw ExtraHash (lf_text t))) (at (lf_text t)) refl
    (ap (suffix_end_read form (lf_text t)) (suffix_rest_read t) ∙ end_read form t (suffix_rest t))

-- A flaw that `suffix_end_read` returns is at the end of the identifier that follows the closing delimiter.
end_place : (form : QuotedForm) (t r : List ℕ) (f : FoundFlaw) → suffix_end_read form t r ≡ Some f → f.1 ≡ r
end_place form t [] f h = go (is_lone_underscore t) h
  where
    go : (b : Bool) → cond b (Some (found_flaw UnderscoreSuffix [])) None ≡ Some f → f.1 ≡ []
    go true e = let same : found_flaw UnderscoreSuffix [] ≡ f = cc in ap (λ z. z.1) (sym same)
    go false e = absurd (cc)
end_place form t (c ∷ cs) f h = go (c == form_quote form) h
  where
    go : (b : Bool) → Some (cond b (found_flaw TextAfterQuote (c ∷ cs)) (found_flaw BadSuffix (c ∷ cs))) ≡ Some f
        → f.1 ≡ c ∷ cs
    go true e = let same : found_flaw TextAfterQuote (c ∷ cs) ≡ f = cc in ap (λ z. z.1) (sym same)
    go false e = let same : found_flaw BadSuffix (c ∷ cs) ≡ f = cc in ap (λ z. z.1) (sym same)

pub suffix_place : (form : QuotedForm) (t : List ℕ) (f : FoundFlaw) → Some f ≡ suffix_read_at form t → IsRestOf File t f.1
unfolding suffix_read_at
suffix_place form t f h = go (begins_hash form t) (sym h)
  where
    go : (b : Bool) → cond b (Some (found_flaw ExtraHash t)) (suffix_end_read form t (suffix_rest t)) ≡ Some f
        → IsRestOf File t f.1
    go true e =
        let same : found_flaw ExtraHash t ≡ f = cc in
        subst (IsRestOf File t) (ap (λ z. z.1) same) (rest_self t)
    go false e = subst (IsRestOf File t) (sym (end_place form t (suffix_rest t) f e)) (suffix_in t)

-- ---- texts in a file that begin as the words `true` and `false`

pub end_flaw_read : (a b : FlawKind) (t : List ℕ) → end_flaw_at a b (lf_text t) ≡ lf_flaw (end_flaw_at a b t)
end_flaw_read a b t = by_first (λ z r. end_flaw_at a b r ≡ lf_flaw (end_flaw_at a b z)) refl (λ cs. refl)
    (λ c cs e. ap (found_flaw b) (sym e)) t

abbrev is_no_end : ℕ → Bool
is_no_end w = not (13 == w) && not (10 == w)

letters_read : (word : List ℕ) → list_all is_no_end word ≡ true → (t : List ℕ) → after_letters word (lf_text t)
    ≡ lf_text (after_letters word t)
letters_read [] h t = refl
letters_read (w ∷ ws) h t =
    let p = and_parts (is_no_end w) (list_all is_no_end ws) h in
    let q = and_parts (not (13 == w)) (not (10 == w)) p.0 in
    by_first (λ z r. after_letters (w ∷ ws) r ≡ lf_text (after_letters (w ∷ ws) z)) refl
    (λ cs. ap (λ b. cond b (after_letters ws (lf_text cs)) (10 ∷ lf_text cs)) (not-true (10 == w) q.1)
    ∙ sym (ap (λ b. lf_text (cond b (after_letters ws (10 ∷ cs)) (13 ∷ 10 ∷ cs))) (not-true (13 == w) q.0)))
    (λ c cs e. both lf_text (c == w) (after_letters ws cs) (c ∷ cs) (after_letters ws (lf_text cs)) (c ∷ lf_text cs)
    (letters_read ws p.1 cs) (sym e)) t

pub word_read : (t : List ℕ) → word_flaw_at (lf_text t) ≡ lf_flaw (word_flaw_at t)
unfolding word_flaw_at
word_read t = by_first (λ z r. word_flaw_at r ≡ lf_flaw (word_flaw_at z)) refl (λ cs. refl) kept t
  where
    At : (word : List ℕ) → List ℕ → FoundFlaw
    At word z = end_flaw_at UnexpectedEnd NotALiteral (after_letters word z)

    truth : (word : List ℕ) (c : ℕ) (cs : List ℕ) → list_all is_no_end word ≡ true → lf_text (c ∷ cs) ≡ c ∷ lf_text cs
        → At word (c ∷ lf_text cs) ≡ lf_flaw (At word (c ∷ cs))
    truth word c cs h e = ap (At word) (sym e) ∙ ap (end_flaw_at UnexpectedEnd NotALiteral) (letters_read word h (c ∷ cs))
        ∙ end_flaw_read UnexpectedEnd NotALiteral (after_letters word (c ∷ cs))

    kept : (c : ℕ) (cs : List ℕ) → lf_text (c ∷ cs) ≡ c ∷ lf_text cs → word_flaw_at (c ∷ lf_text cs)
        ≡ lf_flaw (word_flaw_at (c ∷ cs))
    kept c cs e = both lf_flaw (c == 98 || c == 99) _ _ _ _ (end_flaw_read UnexpectedEnd NotALiteral cs)
        (both lf_flaw (c == 116) _ _ _ _ (truth (truth_text true) c cs refl e)
        (both lf_flaw (c == 102) _ _ _ _ (truth (truth_text false) c cs refl e) (ap (found_flaw NotALiteral) (sym e))))

-- ---- opening delimiters

-- The opening delimiter that the code found, and the text after the delimiter with CR LF read as LF.
abbrev pub lf_opener : FoundOpener → FoundOpener
lf_opener found = option_map (λ p. (p.0, p.1, lf_text p.2)) found

string_read : (k : Kind) (t : List ℕ) → string_opener_at k (lf_text t) ≡ lf_opener (string_opener_at k t)
string_read k t = by_first (λ z r. string_opener_at k r ≡ lf_opener (string_opener_at k z)) refl (λ cs. refl)
    (λ c cs e. both lf_opener (c == 34) _ _ _ _ refl (both lf_opener (c == 114) _ _ _ _ refl refl)) t

byte_read : (t : List ℕ) → byte_opener_at (lf_text t) ≡ lf_opener (byte_opener_at t)
byte_read t = by_first (λ z r. byte_opener_at r ≡ lf_opener (byte_opener_at z)) refl (λ cs. refl) (λ c cs e. both
    lf_opener (c == 39) _ _ _ _ refl (ap (string_opener_at ByteStr) (sym e) ∙ string_read ByteStr (c ∷ cs))) t

pub opener_read : (t : List ℕ) → opener_at (lf_text t) ≡ lf_opener (opener_at t)
unfolding opener_at
opener_read t = by_first (λ z r. opener_at r ≡ lf_opener (opener_at z)) refl (λ cs. refl) (λ c cs e. both lf_opener (c
    == 39) _ _ _ _ refl (both lf_opener (c == 98) _ _ _ _ (byte_read cs) (both lf_opener (c == 99) _ _ _ _ (string_read
    CStr cs) (ap (string_opener_at Str) (sym e) ∙ string_read Str (c ∷ cs))))) t

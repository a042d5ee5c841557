-- The characters and escapes of a quoted literal, in order. In a file, CR LF is read as LF.
use Rattle.rl_strict.proofs.Names.{◌≡◌, ℕ, Bool, true, false, ◌==◌, cond, List, [], ◌∷◌, Option, Some, None, refl, sym, ap, subst, ◌∙◌, arith, ltb-false, option_map, is_ascii, Kind, after_run, first_passes, is_dropped_blank, is_string, escape_at, unit_at, escape_rest, unit_rest, LineEnds, Text, File, IsRestOf, drops, lf_text, read_of}
use Rattle.rl_syntax.proofs.LowBytes.{not_equal}
use Rattle.rl_lenient.proofs.AsciiLemmas.{no_escape}
use Rattle.rl_strict.proofs.StrictRowLemmas.{is_bare}
use Rattle.rl_strict.proofs.FileTextLemmas.{other_kept, rest_kept, rest_line, when_kept}
use Rattle.rl_strict.proofs.EndLemmas.{first_of, free_in, loose, nil_of, step_in}
use Rattle.rl_strict.proofs.WalkForms.{quote_read}
use Rattle.rl_strict.proofs.FileUnits as file

-- ---- the first character of a text, which may be the CR of a CR LF

pub line_of : (how : LineEnds) (t rest : List ℕ) → how ≡ File → t ≡ 13 ∷ 10 ∷ rest → read_of how t
    ≡ 10 ∷ read_of how rest
line_of Text t rest h e = absurd (cc)
line_of File t rest h e = ap lf_text e

pub line_in : (how : LineEnds) (t rest : List ℕ) → t ≡ 13 ∷ 10 ∷ rest → IsRestOf how t rest
line_in Text t rest e = loose t rest (rest_line t rest e)
line_in File t rest e = rest_line t rest e

kept_permissions : (how : LineEnds) (c : ℕ) (cs : List ℕ) → drops how c cs ≡ false → read_of how (c ∷ cs) ≡ c ∷ read_of how cs
kept_permissions Text c cs h = refl
kept_permissions File c cs h = when_kept c cs h

pub kept_read : (how : LineEnds) (t rest : List ℕ) (c : ℕ) → t ≡ c ∷ rest → drops how c rest ≡ false → read_of how t
    ≡ c ∷ read_of how rest
kept_read how t rest c e h = ap (read_of how) e ∙ kept_permissions how c rest h

pub kept_in : (how : LineEnds) (t rest : List ℕ) (c : ℕ) → t ≡ c ∷ rest → drops how c rest ≡ false → IsRestOf how t rest
kept_in Text t rest c e h = record { front = c ∷ []; text_is = e; seam = refl }
kept_in File t rest c e h = rest_kept t rest c e h

-- A non-ASCII character isn't the CR of a CR LF, so it is kept if CR LF is read as LF.
kept_past : (how : LineEnds) (c : ℕ) (cs : List ℕ) → first_passes is_ascii (c ∷ cs) ≡ false → drops how c cs ≡ false
kept_past Text c cs n = refl
kept_past File c cs n = other_kept c cs (not_equal c 13 (omega arith) (omega (arith, ltb-false c 128 n)))

-- ---- white space after an escaped line end

stop_run : (test : ℕ → Bool) (t : List ℕ) → first_passes test t ≡ false → t ≡ after_run test t
stop_run test [] h = refl
stop_run test (c ∷ cs) h = sym (ap (λ b. cond b (after_run test cs) (c ∷ cs)) h)

pub blanks_first : (how : LineEnds) (t rest : List ℕ) → rest ≡ after_run is_dropped_blank t
    → after_run is_dropped_blank (read_of how rest) ≡ after_run is_dropped_blank (read_of how t)
blanks_first Text t rest e = sym (stop_run is_dropped_blank rest (file.blanks_stop t rest e)) ∙ e
blanks_first File t rest e = file.blanks_first t rest e

pub blanks_on : (how : LineEnds) (t rest after next : List ℕ) → after_run is_dropped_blank (read_of how rest) ≡
    after_run is_dropped_blank (read_of how t) → read_of how rest ≡ 10 ∷ read_of how after → next ≡ after_run
    is_dropped_blank after → after_run is_dropped_blank (read_of how next) ≡ after_run is_dropped_blank (read_of how t)
blanks_on how t rest after next same e is = blanks_first how after next is ∙ sym (ap (after_run is_dropped_blank) e) ∙ same

pub blanks_end : (how : LineEnds) (t rest : List ℕ) → after_run is_dropped_blank (read_of how rest) ≡ after_run
    is_dropped_blank (read_of how t) → first_passes is_dropped_blank rest ≡ false → ((c : ℕ) (following : List ℕ) → rest
    ≡ c ∷ following → drops how c following ≡ false) → read_of how rest ≡ after_run is_dropped_blank (read_of how t)
blanks_end Text t rest same stops none = stop_run is_dropped_blank rest stops ∙ same
blanks_end File t rest same stops none = file.blanks_end t rest same stops none

pub blanks_in : (how : LineEnds) (t rest : List ℕ) → rest ≡ after_run is_dropped_blank t → IsRestOf how t rest
blanks_in Text t rest e = loose t rest (file.blanks_in t rest e)
blanks_in File t rest e = file.blanks_in t rest e

pub blanks_more : (how : LineEnds) (t rest after next : List ℕ) → IsRestOf how t rest → IsRestOf how rest after
    → next ≡ after_run is_dropped_blank after → IsRestOf how t next
blanks_more how t rest after next r line is = step_in how t rest next r
    (step_in how rest after next line (blanks_in how after next is))

-- ---- escapes

pub line_break : (how : LineEnds) (k : Kind) (t blanks rest : List ℕ) → is_string k ≡ true
    → read_of how t ≡ 10 ∷ read_of how blanks → read_of how rest ≡ after_run is_dropped_blank (read_of how blanks)
    → Some (read_of how rest) ≡ escape_rest k (read_of how t)
line_break how k t blanks rest s e is = ap Some is ∙ sym (ap (escape_rest k) e ∙ ap (λ b. cond {A = Option (List ℕ)} b
    (Some (after_run is_dropped_blank (read_of how blanks))) None) s)

pub break_of : (how : LineEnds) (k : Kind) (t blanks rest : List ℕ) → is_string k ≡ true → t ≡ 10 ∷ blanks → read_of how
    rest ≡ after_run is_dropped_blank (read_of how blanks) → Some (read_of how rest) ≡ escape_rest k (read_of how t)
break_of how k t blanks rest s e is = line_break how k t blanks rest s (quote_read how t blanks 10 e refl).0 is

pub break_in : (how : LineEnds) (t blanks rest : List ℕ) → t ≡ 10 ∷ blanks → IsRestOf how blanks rest
    → IsRestOf how (92 ∷ t) rest
break_in how t blanks rest e r = step_in how (92 ∷ t) blanks rest
    (free_in how (92 ∷ t) (92 ∷ 10 ∷ []) blanks (ap (λ z. 92 ∷ z) e) refl) r

pub after_escape_in : (how : LineEnds) (t blanks rest : List ℕ) → IsRestOf how t blanks → IsRestOf how blanks rest
    → IsRestOf how (92 ∷ t) rest
after_escape_in how t blanks rest p q = step_in how (92 ∷ t) t rest (free_in how (92 ∷ t) (92 ∷ []) t refl refl)
    (step_in how t blanks rest p q)

-- A backslash begins no escape at the text's end or before a non-ASCII character.
no_escape_rest : (kind : Kind) (t : List ℕ) → first_passes is_ascii t ≡ false → escape_rest kind t ≡ None
unfolding unit_at
no_escape_rest kind [] h = refl
no_escape_rest kind (c ∷ cs) h = rw (
  not_equal c 10 (omega arith) (omega (arith, ltb-false c 128 h)),
  not_equal c 13 (omega arith) (omega (arith, ltb-false c 128 h)),
) (ap (option_map (λ p. p.1)) (no_escape kind (c ∷ cs) h))

pub past_of : (how : LineEnds) (k : Kind) (t : List ℕ) → first_passes is_ascii t ≡ false
    → None ≡ escape_rest k (read_of how t)
past_of how k t h = sym (no_escape_rest k (read_of how t) (first_of how is_ascii refl t ∙ h))

-- After a backslash, a CR that no LF follows isn't a valid escape.
pub return_of : (how : LineEnds) (k : Kind) (t line : List ℕ) → t ≡ 13 ∷ line → drops how 13 line ≡ false
    → None ≡ escape_rest k (read_of how t)
return_of how k t line e h = sym (ap (escape_rest k) (kept_read how t line 13 e h))

-- After a backslash, an escape other than an escaped line end ends at the same position in both grammars, Rust's and
-- `syn`'s.
left_of : (k : Kind) (c : ℕ) (cs : List ℕ) → (c == 10) ≡ false → (c == 13) ≡ false → escape_rest k (c ∷ cs)
    ≡ option_map (λ (p : List ℕ × List ℕ). p.1) (escape_at k (c ∷ cs))
unfolding unit_at
left_of k c cs n m =
    let line : Option (List ℕ) = cond (is_string k) (Some (after_run is_dropped_blank cs)) None in
    let other : Option (List ℕ) = option_map (λ (p : List ℕ × List ℕ). p.1) (escape_at k (c ∷ cs)) in
    ap (λ b. cond b line (cond (c == 13) None other)) n ∙ ap (λ b. cond b None other) m

pub other_some : (how : LineEnds) (k : Kind) (t cs v rest : List ℕ) (c : ℕ) → t ≡ c ∷ cs → (c == 10) ≡ false
    → (c == 13) ≡ false → Some (v, rest) ≡ escape_at k t → Some (read_of how rest) ≡ escape_rest k (read_of how t)
other_some Text k t cs v rest c e n m is = sym (ap (escape_rest k) e ∙ left_of k c cs n m
    ∙ ap (option_map (λ (p : List ℕ × List ℕ). p.1)) (sym (is ∙ ap (escape_at k) e)))
other_some File k t cs v rest c e n m is = file.other_some k t cs v rest c e n m is

pub other_none : (how : LineEnds) (k : Kind) (t cs : List ℕ) (c : ℕ) → t ≡ c ∷ cs → (c == 10) ≡ false
    → (c == 13) ≡ false → None ≡ escape_at k t → None ≡ escape_rest k (read_of how t)
other_none Text k t cs c e n m is = sym (ap (escape_rest k) e ∙ left_of k c cs n m
    ∙ ap (option_map (λ (p : List ℕ × List ℕ). p.1)) (sym (is ∙ ap (escape_at k) e)))
other_none File k t cs c e n m is = file.other_none k t cs c e n m is

pub other_in : (how : LineEnds) (k : Kind) (t cs v rest : List ℕ) (c : ℕ) → is_string k ≡ true → t ≡ c ∷ cs
    → (c == 10) ≡ false → (c == 13) ≡ false → Some (v, rest) ≡ escape_at k t → IsRestOf how (92 ∷ t) rest
other_in Text k t cs v rest c s e n m is = loose (92 ∷ t) rest (file.other_in k t cs v rest c s e n m is)
other_in File k t cs v rest c s e n m is = file.other_in k t cs v rest c s e n m is

-- ---- an escape, or a CR LF

pub backslash_of : (how : LineEnds) (k : Kind) (t following : List ℕ) (o : Option (List ℕ)) → t ≡ 92 ∷ following
    → o ≡ escape_rest k (read_of how following) → o ≡ unit_rest k (read_of how t)
unfolding unit_rest
backslash_of how k t following o e h = h ∙ sym (ap (unit_rest k) (quote_read how t following 92 e refl).0)

pub feed_of : (how : LineEnds) (k : Kind) (t after : List ℕ) → is_string k ≡ true
    → read_of how t ≡ 10 ∷ read_of how after → Some (read_of how after) ≡ unit_rest k (read_of how t)
feed_of how k t after s e = sym (ap (unit_rest k) e ∙ file.feed_unit k (read_of how after) s)

pub no_escaped : (how : LineEnds) (k : Kind) (t : List ℕ) → first_passes (is_bare k) t ≡ false → first_passes (λ c. c ==
    92) t ≡ false → ((c : ℕ) (following : List ℕ) → t ≡ c ∷ following → drops how c following ≡ false) → None ≡
    unit_rest k (read_of how t)
unfolding unit_rest
no_escaped how k [] h n kept = sym (ap (unit_rest k) (nil_of how [] refl))
no_escaped how k (c ∷ cs) h n kept = sym (ap (unit_rest k) (kept_permissions how c cs (kept c cs refl))
    ∙ ap (λ b. cond b (escape_rest k (read_of how cs)) (cond (is_bare k c) (Some (read_of how cs)) None)) n
    ∙ ap (λ b. cond b (Some (read_of how cs)) None) h)

-- If a non-ASCII character isn't allowed unescaped, no valid character or escape begins with it.
pub past_escaped : (how : LineEnds) (k : Kind) (t : List ℕ) → first_passes (is_bare k) t ≡ false
    → first_passes is_ascii t ≡ false → None ≡ unit_rest k (read_of how t)
past_escaped how k [] h n = no_escaped how k [] h refl (λ c following e. absurd (cc))
past_escaped how k (d ∷ ds) h n = no_escaped how k (d ∷ ds) h
    (not_equal d 92 (omega arith) (omega (arith, ltb-false d 128 n)))
    (λ c following e. kept_past how c following
    (subst (λ z. first_passes is_ascii z ≡ false) e n))

use Rattle.rl_syntax.proofs.Common.{codes, refl}
use Rattle.rl_style.proofs.Keywords.{keyword, no_keyword}
use Rattle.rl_style.proofs.calls.is_keyword.Goals as goal

pub returns-in_default : goal.returns-in_default
returns-in_default c =
    let other = c.in_default in
    no_keyword c.args.word.now (other.not-as, (other.not-break, (other.not-const, (other.not-continue, (other.not-crate, (other.not-else, (other.not-enum, (other.not-extern, (other.not-false, (other.not-fn, (other.not-for, (other.not-if, (other.not-impl, (other.not-in, (other.not-let, (other.not-loop, (other.not-match, (other.not-mod, (other.not-move, (other.not-mut, (other.not-pub, (other.not-ref, (other.not-return, (other.not-self, (other.not-Self, (other.not-static, (other.not-struct, (other.not-super, (other.not-trait, (other.not-true, (other.not-type, (other.not-unsafe, (other.not-use, (other.not-where₀, (other.not-while, (tt))))))))))))))))))))))))))))))))))))

pub returns-in-as : goal.returns-in-as
returns-in-as c = keyword c.args.word.now (codes "as") c.in-as.is-as refl

pub returns-in-as-2 : goal.returns-in-as-2
returns-in-as-2 c = keyword c.args.word.now (codes "break") c.in-as.is-break refl

pub returns-in-as-3 : goal.returns-in-as-3
returns-in-as-3 c = keyword c.args.word.now (codes "const") c.in-as.is-const refl

pub returns-in-as-4 : goal.returns-in-as-4
returns-in-as-4 c = keyword c.args.word.now (codes "continue") c.in-as.is-continue refl

pub returns-in-as-5 : goal.returns-in-as-5
returns-in-as-5 c = keyword c.args.word.now (codes "crate") c.in-as.is-crate refl

pub returns-in-as-6 : goal.returns-in-as-6
returns-in-as-6 c = keyword c.args.word.now (codes "else") c.in-as.is-else refl

pub returns-in-as-7 : goal.returns-in-as-7
returns-in-as-7 c = keyword c.args.word.now (codes "enum") c.in-as.is-enum refl

pub returns-in-as-8 : goal.returns-in-as-8
returns-in-as-8 c = keyword c.args.word.now (codes "extern") c.in-as.is-extern refl

pub returns-in-as-9 : goal.returns-in-as-9
returns-in-as-9 c = keyword c.args.word.now (codes "false") c.in-as.is-false refl

pub returns-in-as-10 : goal.returns-in-as-10
returns-in-as-10 c = keyword c.args.word.now (codes "fn") c.in-as.is-fn refl

pub returns-in-as-11 : goal.returns-in-as-11
returns-in-as-11 c = keyword c.args.word.now (codes "for") c.in-as.is-for refl

pub returns-in-as-12 : goal.returns-in-as-12
returns-in-as-12 c = keyword c.args.word.now (codes "if") c.in-as.is-if refl

pub returns-in-as-13 : goal.returns-in-as-13
returns-in-as-13 c = keyword c.args.word.now (codes "impl") c.in-as.is-impl refl

pub returns-in-as-14 : goal.returns-in-as-14
returns-in-as-14 c = keyword c.args.word.now (codes "in") c.in-as.is-in refl

pub returns-in-as-15 : goal.returns-in-as-15
returns-in-as-15 c = keyword c.args.word.now (codes "let") c.in-as.is-let refl

pub returns-in-as-16 : goal.returns-in-as-16
returns-in-as-16 c = keyword c.args.word.now (codes "loop") c.in-as.is-loop refl

pub returns-in-as-17 : goal.returns-in-as-17
returns-in-as-17 c = keyword c.args.word.now (codes "match") c.in-as.is-match refl

pub returns-in-as-18 : goal.returns-in-as-18
returns-in-as-18 c = keyword c.args.word.now (codes "mod") c.in-as.is-mod refl

pub returns-in-as-19 : goal.returns-in-as-19
returns-in-as-19 c = keyword c.args.word.now (codes "move") c.in-as.is-move refl

pub returns-in-as-20 : goal.returns-in-as-20
returns-in-as-20 c = keyword c.args.word.now (codes "mut") c.in-as.is-mut refl

pub returns-in-as-21 : goal.returns-in-as-21
returns-in-as-21 c = keyword c.args.word.now (codes "pub") c.in-as.is-pub refl

pub returns-in-as-22 : goal.returns-in-as-22
returns-in-as-22 c = keyword c.args.word.now (codes "ref") c.in-as.is-ref refl

pub returns-in-as-23 : goal.returns-in-as-23
returns-in-as-23 c = keyword c.args.word.now (codes "return") c.in-as.is-return refl

pub returns-in-as-24 : goal.returns-in-as-24
returns-in-as-24 c = keyword c.args.word.now (codes "self") c.in-as.is-self refl

pub returns-in-as-25 : goal.returns-in-as-25
returns-in-as-25 c = keyword c.args.word.now (codes "Self") c.in-as.is-Self refl

pub returns-in-as-26 : goal.returns-in-as-26
returns-in-as-26 c = keyword c.args.word.now (codes "static") c.in-as.is-static refl

pub returns-in-as-27 : goal.returns-in-as-27
returns-in-as-27 c = keyword c.args.word.now (codes "struct") c.in-as.is-struct refl

pub returns-in-as-28 : goal.returns-in-as-28
returns-in-as-28 c = keyword c.args.word.now (codes "super") c.in-as.is-super refl

pub returns-in-as-29 : goal.returns-in-as-29
returns-in-as-29 c = keyword c.args.word.now (codes "trait") c.in-as.is-trait refl

pub returns-in-as-30 : goal.returns-in-as-30
returns-in-as-30 c = keyword c.args.word.now (codes "true") c.in-as.is-true refl

pub returns-in-as-31 : goal.returns-in-as-31
returns-in-as-31 c = keyword c.args.word.now (codes "type") c.in-as.is-type refl

pub returns-in-as-32 : goal.returns-in-as-32
returns-in-as-32 c = keyword c.args.word.now (codes "unsafe") c.in-as.is-unsafe refl

pub returns-in-as-33 : goal.returns-in-as-33
returns-in-as-33 c = keyword c.args.word.now (codes "use") c.in-as.is-use refl

pub returns-in-as-34 : goal.returns-in-as-34
returns-in-as-34 c = keyword c.args.word.now (codes "where") c.in-as.is-where₀ refl

pub returns-in-as-35 : goal.returns-in-as-35
returns-in-as-35 c = keyword c.args.word.now (codes "while") c.in-as.is-while refl

-- The theorems of src/laws.rt, as lemmas that callers may cite.
use Rattle.rl_tokens.specs.PrintedTrees.{PrintedLiteralsLexToTheirTrees, ReprintedLiteralsLexToThemselves}
use Rattle.rl_lexer.specs.Cuts.{OneError}
use Rattle.rl_tokens.specs.Laws.{ARestOfARestIsARest, AMarkHasOneRest, JointMarksHaveOneRest, APeekedMarkIsAtTheFront, AGroupHasOneInside, AGroupIsNoMark, AStepIsLighter, AMarkIsLighter, AnInsideIsLighter}
use Rattle.rl_tokens.specs.Lexing.{ATextLexesOrHasAnError, NeverBoth, OneList}
use Rattle.rl_tokens.proofs.LexLaws.{never_both as never_both_law, one_error as one_error_law, one_list as one_list_law}
use Rattle.rl_tokens.proofs.NestedTrees.{lexes_or_fails}
use Rattle.rl_tokens.proofs.PrintedLaws.{printed_literals_lex_to_their_trees as printed_lexes_law, reprinted_literals_lex_to_themselves as reprinted_lexes_law}
use Rattle.rl_tokens.specs.WrittenLists.{AStrListIsPrinted}
use Rattle.rl_tokens.proofs.WrittenListLemmas.{str_list_printed}
use Rattle.rl_tokens.proofs.TreeLaws.{inside_lighter, mark_lighter, no_mark, one_group, one_mark, peeked_mark, step_lighter}
use Rattle.rl_tokens.proofs.TreeRests.{rest_step}
use Rattle.rl_tokens.proofs.MarkLemmas.{one_rest}

pub printed_literals_lex_to_their_trees : PrintedLiteralsLexToTheirTrees
printed_literals_lex_to_their_trees = printed_lexes_law

pub reprinted_literals_lex_to_themselves : ReprintedLiteralsLexToThemselves
reprinted_literals_lex_to_themselves = reprinted_lexes_law

pub a_text_lexes_or_has_an_error : ATextLexesOrHasAnError
a_text_lexes_or_has_an_error = lexes_or_fails

pub one_list : OneList
one_list = one_list_law

pub one_error : OneError
one_error = one_error_law

pub never_both : NeverBoth
never_both = never_both_law

pub a_rest_of_a_rest_is_a_rest : ARestOfARestIsARest
a_rest_of_a_rest_is_a_rest = rest_step

pub a_mark_has_one_rest : AMarkHasOneRest
a_mark_has_one_rest = one_mark

pub joint_marks_have_one_rest : JointMarksHaveOneRest
joint_marks_have_one_rest = one_rest

pub a_peeked_mark_is_at_the_front : APeekedMarkIsAtTheFront
a_peeked_mark_is_at_the_front = peeked_mark

pub a_group_has_one_inside : AGroupHasOneInside
a_group_has_one_inside = one_group

pub a_group_is_no_mark : AGroupIsNoMark
a_group_is_no_mark = no_mark

pub a_step_is_lighter : AStepIsLighter
a_step_is_lighter = step_lighter

pub a_mark_is_lighter : AMarkIsLighter
a_mark_is_lighter = mark_lighter

pub an_inside_is_lighter : AnInsideIsLighter
an_inside_is_lighter = inside_lighter

pub a_str_list_is_printed : AStrListIsPrinted
a_str_list_is_printed = str_list_printed

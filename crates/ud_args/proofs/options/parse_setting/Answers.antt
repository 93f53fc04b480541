use Rattle.ud_args.proofs.options.parse_setting.Goals as goal

pub returns-in-WithArgument-clause-err : goal.returns-in-WithArgument-clause-err
returns-in-WithArgument-clause-err c = λ more.
    rw (c.in-WithArgument.is, ← c.as_bytes.ensures.value) (c.parse_option_with_argument.ensures.err more)

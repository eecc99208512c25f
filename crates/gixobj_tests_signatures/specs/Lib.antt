pub mod ScriptedAnswers

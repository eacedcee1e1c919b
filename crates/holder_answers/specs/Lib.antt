pub mod HolderAnswers
